use Rattle.std.proofs.Common.{◌+◌, [], ◌∷◌, sym, ap, ◌∙◌, w64, to_z, of_z}
use Rattle.std.proofs.lemmas.Int.{to_z-of_z}
use Rattle.sot_trace.specs.Numbers.{signed_numeral}
use Rattle.sot_trace.proofs.Numerals.{digit_below_is}
use Rattle.sot_trace.proofs.number.digit_below.Goals as goal

pub returns-then-number-leminus1-clause-numeral : goal.returns-then-number-leminus1-clause-numeral
returns-then-number-leminus1-clause-numeral c =
    ap signed_numeral (sym (to_z-of_z w64 c.args.number c.ranges.number))
    ∙ digit_below_is (to_z w64 (of_z w64 c.args.number)) c.if-number-geminus9.true c.if-number-leminus1.true
    ∙ ap (λ m. 45 ∷ (48 + m) ∷ []) (sym c.unsigned_abs.ensures.value)
