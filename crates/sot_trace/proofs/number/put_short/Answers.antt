use Rattle.std.proofs.Common.{arith}
use Rattle.sot_trace.proofs.Numerals.{one_digit}
use Rattle.sot_trace.proofs.Putting.{put_so}
use Rattle.sot_trace.proofs.number.put_short.Goals as goal

pub returns-then-number-lt10 : goal.returns-then-number-lt10
returns-then-number-lt10 g c = put_so g.O.Out.puts _ _ _ _ c.put_digit.ensures (one_digit c.args.number (omega (arith, c.if-number-lt10.true)))
