use Rattle.std.proofs.Common.{◌∙◌, ap, arith, w64}
use Rattle.std.specs.Fmt.{signed_decimal}
use Rattle.std.proofs.lemmas.Int.{to_z-of_z}
use Rattle.sot_trace.proofs.Numerals.{signed_decimal_is}
use Rattle.sot_trace.proofs.Putting.{put_so}
use Rattle.sot_trace.proofs.number.put_much.Goals as goal

pub returns : goal.returns
returns g c =
    put_so g.O.Out.puts _ _ _ _ c.put.ensures
    (c.format.ensures.text ∙ ap signed_decimal (to_z-of_z w64 c.args.number c.ranges.number)
    ∙ signed_decimal_is c.args.number (omega (arith, c.ranges.number.sfits)))
