use Rattle.std.proofs.Common.{rules, FitsSigned, w64, sym, ◌∙◌}
use Rattle.sot_iv.proofs.Wide.{word}
use Rattle.sot_iv.proofs.RangeReads.{local_value}
use Rattle.sot_iv.proofs.body.assigned.Goals as goal

pub returns : goal.returns
returns c =
    let info = c.index-info.result.now in
    let x = c.in_ok-x.x in
    let lo_fits : FitsSigned w64 info.lo = search rules in
    let hi_fits : FitsSigned w64 info.hi = search rules in
    rw (word info.lo lo_fits, word info.hi hi_fits) at c.inside.ensures
    ∙ sym (local_value c.args.node.now c.args.local info c.args.at _ x c.requires.local c.index-info.ensures (sym c.interval_of.ensures ∙ c.in_ok-x.was))
