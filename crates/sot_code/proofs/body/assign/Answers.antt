use Rattle.std.proofs.Common.{rules, ◌≡◌, FitsSigned, w64, sym, ◌∙◌, length}
use Rattle.sot_code.proofs.Filling.{read_word}
use Rattle.sot_code.proofs.Steps.{assign_ends}
use Rattle.sot_code.proofs.body.assign.Goals as goal

pub returns-clause-ends : goal.returns-clause-ends
returns-clause-ends c draft =
    let z = c.in_ok-z.z in
    let fits : FitsSigned w64 z = search rules in
    let base : c.len.result ≡ length c.args.node.now.reads.items = c.len.ensures ∙ c.args.node.now.reads.ok.0 in
    rw (read_word z fits, base)
    (assign_ends c.args.node.now c.args.local c.args.at _ z c.args.numbers.now draft (sym c.assigned.ensures ∙ c.in_ok-z.was))
