use Rattle.std.proofs.Common.{ap, w64}
use Rattle.std.proofs.lemmas.Int.{to_z-of_z}
use Rattle.sot_trace.specs.Numbers.{signed_numeral}
use Rattle.sot_trace.proofs.Putting.{put_so}
use Rattle.sot_guard_lines.proofs.hold.put_held.Goals as goal

pub returns : goal.returns
returns g c =
    let more = g.met.O.Out.more in
    let number = put_so g.O.Out.puts _ _ _ _ c.put_number.ensures (ap signed_numeral (to_z-of_z w64 c.args.number c.ranges.number)) in
    more _ _ _ _ _ c.put_byte.ensures (more _ _ _ _ _ c.put_scalar_name.ensures (more _ _ _ _ _ c.put_byte-2.ensures number))
