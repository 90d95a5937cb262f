use Rattle.std.proofs.Common.{ap, rules, w64, SFits}
use Rattle.std.proofs.lemmas.Int.{to_z-of_z}
use Rattle.sot_trace.specs.Numbers.{signed_numeral}
use Rattle.sot_trace.proofs.Putting.{put_so}
use Rattle.sot_guard_lines.specs.Lines.{ends_text}
use Rattle.sot_guard_lines.proofs.told.put_ends.Goals as goal

pub returns : goal.returns
returns g c =
    let more = g.met.O.Out.more in
    let puts = g.O.Out.puts in
    let lo_fits : SFits w64 c.bounds.inside.lo = search rules in
    let hi_fits : SFits w64 c.bounds.inside.hi = search rules in
    let lo = put_so puts _ _ _ _ c.put_number.ensures (ap signed_numeral (to_z-of_z w64 c.bounds.inside.lo lo_fits)) in
    let hi = put_so puts _ _ _ _ c.put_number-2.ensures (ap signed_numeral (to_z-of_z w64 c.bounds.inside.hi hi_fits)) in
    put_so puts _ _ _ _ (more _ _ _ _ _ c.put_byte.ensures (more _ _ _ _ _ lo (more _ _ _ _ _ c.put.ensures (more _ _ _ _ _ hi c.put_byte-2.ensures))))
    (ap ends_text c.bounds.view_is)
