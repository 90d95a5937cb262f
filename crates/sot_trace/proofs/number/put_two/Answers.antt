use Rattle.std.proofs.Common.{◌/◌, arith}
use Rattle.sot_trace.proofs.Numerals.{one_digit, last_digit}
use Rattle.sot_trace.proofs.Putting.{put_so}
use Rattle.sot_trace.proofs.number.put_two.Goals as goal

pub returns : goal.returns
returns g c =
    let n = c.args.number in
    put_so g.O.Out.puts _ _ _ _ (g.met.O.Out.more _ _ _ _ _ c.put_digit.ensures c.put_digit-2.ensures)
    (last_digit n _ c.requires.low (one_digit (n / 10) (omega (arith, c.requires.high))))
