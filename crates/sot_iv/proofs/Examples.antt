-- Worked intervals, computed by the ends.
use Rattle.std.proofs.Common.{pos, negsuc, [], ◌∷◌, refl, arith}
use Rattle.std.proofs.lemmas.Int.{ints}
use Rattle.sot_syntax_tree.specs.declared.operator.Op.TheVariants.{Add, Mul, Less}
use Rattle.sot_syntax_tree.specs.declared.operator.Func.TheVariants.{Abs}
use Rattle.sot_iv.specs.TermIntervals.{rest_result}
use Rattle.sot_iv.specs.Ends.{quotient_or_trap}
use Rattle.sot_iv.specs.Examples.{from_to, ProductRow, QuotientRow, ZeroRow, WideRow, RestRows, MagnitudeRow, ComparisonRows, DraftRows}
use Rattle.sot_iv.proofs.Least.{hull_is}
use Rattle.sot_iv.proofs.Images.{image_of, called_least}
use Rattle.sot_iv.proofs.Rests.{rest_least}
use Rattle.sot_iv.proofs.Terms.{operated_is, quotient_is}

pub product_row : ProductRow
product_row at = operated_is Mul at (from_to (negsuc 2) (pos 2)) (from_to (negsuc 4) (pos 4)) (omega (arith, ints)) (omega (arith, ints))

pub quotient_row : QuotientRow
unfolding quotient_or_trap
quotient_row at = quotient_is at (from_to (pos 10) (pos 10)) (from_to (pos 1) (pos 5)) (omega (arith, ints)) (omega (arith, ints))

pub zero_row : ZeroRow
unfolding quotient_or_trap
zero_row at = quotient_is at (from_to (pos 10) (pos 10)) (from_to (pos 0) (pos 5)) (omega (arith, ints)) (omega (arith, ints))

pub wide_row : WideRow
wide_row at = operated_is Add at (from_to (pos 0) (pos 9223372036854775807)) (from_to (pos 0) (pos 1)) (omega (arith, ints)) (omega (arith, ints))

pub rest_rows : RestRows
rest_rows = (
  λ at. image_of (rest_result (pos 5)) at (from_to (pos 8) (pos 11) ∷ []) (from_to (pos 0) (pos 4))
      (rest_least (pos 5) (from_to (pos 8) (pos 11)) (omega (arith, ints)) (omega (arith, ints))),
  λ at. image_of (rest_result (pos 5)) at (from_to (pos 6) (pos 9) ∷ []) (from_to (pos 1) (pos 4))
      (rest_least (pos 5) (from_to (pos 6) (pos 9)) (omega (arith, ints)) (omega (arith, ints))),
)

pub magnitude_row : MagnitudeRow
magnitude_row at = called_least Abs at (from_to (negsuc 2) (pos 2) ∷ []) refl (omega (arith, ints), tt)

pub comparison_rows : ComparisonRows
comparison_rows = (
  λ at. operated_is Less at (from_to (pos 0) (pos 3)) (from_to (pos 3) (pos 5)) (omega (arith, ints)) (omega (arith, ints)),
  λ at. operated_is Less at (from_to (pos 0) (pos 2)) (from_to (pos 3) (pos 5)) (omega (arith, ints)) (omega (arith, ints)),
)

pub draft_rows : DraftRows
draft_rows = (
  refl,
  (from_to (pos 1) (pos 6), hull_is (from_to (pos 1) (pos 2)) (from_to (pos 5) (pos 6)) (omega (arith, ints)) (omega (arith, ints)), refl),
  (from_to (pos 1) (pos 6), hull_is (from_to (pos 1) (pos 2)) (from_to (pos 5) (pos 6)) (omega (arith, ints)) (omega (arith, ints)), refl),
)
