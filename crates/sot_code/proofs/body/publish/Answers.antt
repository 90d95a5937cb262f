use Rattle.std.proofs.Common.{rules, FitsSigned, w64, sym, ◌∙◌}
use Rattle.sot_code.proofs.Filling.{read_word}
use Rattle.sot_code.proofs.Steps.{publish_ends}
use Rattle.sot_code.proofs.body.publish.Goals as goal

pub returns-clause-ends : goal.returns-clause-ends
returns-clause-ends c =
    let z = c.in_ok-z.z in
    let fits : FitsSigned w64 z = search rules in
    rw (c.set.ensures, read_word z fits)
    (publish_ends c.args.p.now c.args.node.now c.args.slot c.args.at _ z c.args.numbers.now c.args.draft.now c.requires.slot
    (sym c.published.ensures ∙ c.in_ok-z.was))
