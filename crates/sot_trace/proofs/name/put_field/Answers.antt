use Rattle.std.proofs.Common.{ap, sym}
use Rattle.sot_trace.specs.Names.{field_part}
use Rattle.sot_trace.proofs.Putting.{put_so}
use Rattle.sot_trace.proofs.name.put_field.Goals as goal

pub returns-in-Some : goal.returns-in-Some
returns-in-Some g c =
    put_so g.O.Out.puts _ _ _ _ (g.met.O.Out.more _ _ _ _ _ c.put_byte.ensures c.put_name.ensures) (ap field_part (sym c.in-Some.is))
