use Rattle.std.proofs.Common.{sym, ap, ◌∙◌, w64, to_z, of_z}
use Rattle.std.proofs.lemmas.Int.{to_z-of_z}
use Rattle.sot_trace.specs.Numbers.{signed_numeral}
use Rattle.sot_trace.proofs.Numerals.{digit_is}
use Rattle.sot_trace.proofs.number.digit.Goals as goal

pub returns-then-number-le9-clause-numeral : goal.returns-then-number-le9-clause-numeral
returns-then-number-le9-clause-numeral c =
    ap signed_numeral (sym (to_z-of_z w64 c.args.number c.ranges.number))
    ∙ digit_is (to_z w64 (of_z w64 c.args.number)) c.if-number-ge0.true c.if-number-le9.true
