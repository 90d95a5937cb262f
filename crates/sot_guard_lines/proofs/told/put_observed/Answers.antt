use Rattle.std.proofs.Common.{ap, w64}
use Rattle.std.proofs.lemmas.Int.{to_z-of_z}
use Rattle.sot_trace.specs.Numbers.{signed_numeral}
use Rattle.sot_trace.proofs.Putting.{put_so}
use Rattle.sot_guard_lines.proofs.told.put_observed.Goals as goal

pub returns : goal.returns
returns g c =
    let more = g.met.O.Out.more in
    let value = put_so g.O.Out.puts _ _ _ _ c.put_number.ensures (ap signed_numeral (to_z-of_z w64 c.args.value c.ranges.value)) in
    more _ _ _ _ _ c.put_byte.ensures (more _ _ _ _ _ c.put_ends.ensures (more _ _ _ _ _ c.put.ensures value))
