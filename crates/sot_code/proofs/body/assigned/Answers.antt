use Rattle.std.proofs.Common.{rules, FitsSigned, w64, sym, ◌∙◌}
use Rattle.sot_code.proofs.Filling.{read_word}
use Rattle.sot_code.proofs.RangeReads.{local_value}
use Rattle.sot_code.proofs.body.assigned.Goals as goal

pub returns : goal.returns
returns c =
    let info = c.index-info.result.now in
    let z = c.in_ok-z.z in
    let lo_fits : FitsSigned w64 info.lo = search rules in
    let hi_fits : FitsSigned w64 info.hi = search rules in
    let z_fits : FitsSigned w64 z = search rules in
    rw (read_word info.lo lo_fits, read_word info.hi hi_fits, read_word z z_fits) at c.inside.ensures
    ∙ sym (local_value c.args.node.now c.args.local info c.args.at _ z c.requires.local c.index-info.ensures (sym c.value.ensures ∙ c.in_ok-z.was))
