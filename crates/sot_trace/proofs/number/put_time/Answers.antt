use Rattle.std.proofs.Common.{◌∙◌, arith}
use Rattle.sot_trace.proofs.Numerals.{decimal_is}
use Rattle.sot_trace.proofs.Putting.{put_so}
use Rattle.sot_trace.proofs.number.put_time.Goals as goal

pub returns : goal.returns
returns g c = put_so g.O.Out.puts _ _ _ _ c.put.ensures (c.format.ensures.text ∙ decimal_is c.args.time (omega (arith, c.ranges.time.fits)))
