use Rattle.std.proofs.Common.{◌/◌, refl, arith}
use Rattle.sot_trace.specs.Numbers.{numeral}
use Rattle.sot_trace.proofs.Numerals.{last_digit}
use Rattle.sot_trace.proofs.Putting.{put_so}
use Rattle.sot_trace.proofs.number.put_three.Goals as goal

pub returns : goal.returns
returns g c =
    let n = c.args.number in
    put_so g.O.Out.puts _ _ _ _ (g.met.O.Out.more _ _ _ _ _ c.put_two.ensures c.put_digit.ensures)
    (last_digit n (numeral (n / 10)) (omega (arith, c.requires.low)) refl)
