use Rattle.std.proofs.Common.{ap, w64}
use Rattle.std.proofs.lemmas.Int.{to_z-of_z}
use Rattle.sot_trace.specs.Numbers.{signed_numeral}
use Rattle.sot_trace.proofs.Putting.{put_so}
use Rattle.sot_guard_lines.proofs.outline.put_range.Goals as goal

pub returns : goal.returns
returns g c =
    let more = g.met.O.Out.more in
    let puts = g.O.Out.puts in
    let lo = put_so puts _ _ _ _ c.put_number.ensures (ap signed_numeral (to_z-of_z w64 c.args.lo c.ranges.lo)) in
    let hi = put_so puts _ _ _ _ c.put_number-2.ensures (ap signed_numeral (to_z-of_z w64 c.args.hi c.ranges.hi)) in
    more _ _ _ _ _ c.put.ensures (more _ _ _ _ _ c.put_time.ensures (more _ _ _ _ _ c.put-2.ensures
    (more _ _ _ _ _ lo (more _ _ _ _ _ c.put_byte.ensures (more _ _ _ _ _ hi c.put_byte-2.ensures)))))
