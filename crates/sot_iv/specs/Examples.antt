-- Worked intervals.
use Rattle.std.specs.Prelude.{ℤ, pos, negsuc, [], ◌∷◌, Ok, Err}
use Rattle.sot_text.specs.declared.token.Span.{Span}
use Rattle.sot_box.specs.Sides.{Side}
use Rattle.sot_syntax_tree.specs.declared.operator.Op.TheVariants.{Add, Mul, Div, Less}
use Rattle.sot_syntax_tree.specs.declared.operator.Func.TheVariants.{Abs}
use Rattle.sot_lang.specs.declared.trap.TrapKind.TheVariants.{ZeroDivisor, Wide}
use Rattle.sot_iv.specs.declared.drafted.Drafted.TheVariants.{Absent, Maybe, Sure}
use Rattle.sot_iv.specs.TermIntervals.{IsLeastResult, IsImage, rest_result, called_result}
use Rattle.sot_iv.specs.BodyIntervals.{IsDraftJoin}

-- the interval from lo to hi
abbrev pub from_to : ℤ → ℤ → Side
from_to lo hi = record { lo = lo; hi = hi }

-- [-3..2] * [-5..4] is [-12..15]
abbrev pub ProductRow : Type 0
ProductRow =
    (at : Span) → IsLeastResult Mul at (from_to (negsuc 2) (pos 2)) (from_to (negsuc 4) (pos 4))
    (Ok (from_to (negsuc 11) (pos 15)))

-- 10 / [1..5] is [2..10]
abbrev pub QuotientRow : Type 0
QuotientRow =
    (at : Span) → IsLeastResult Div at (from_to (pos 10) (pos 10)) (from_to (pos 1) (pos 5))
    (Ok (from_to (pos 2) (pos 10)))

-- 10 / [0..5] is the trap of a divisor 0, with the divisors
abbrev pub ZeroRow : Type 0
ZeroRow =
    (at : Span) → IsLeastResult Div at (from_to (pos 10) (pos 10)) (from_to (pos 0) (pos 5))
    (Err (record { at = at; kind = ZeroDivisor; lo = pos 0; hi = pos 5 }))

-- [0..2^63-1] + [0..1] is the trap of a wide result, with the sums
abbrev pub WideRow : Type 0
WideRow =
    (at : Span) → IsLeastResult Add at (from_to (pos 0) (pos 9223372036854775807))
    (from_to (pos 0) (pos 1)) (Err (record
    { at = at; kind = Wide; lo = pos 0; hi = pos 9223372036854775808 }))

-- [8..11] % 5 is [0..4], and [6..9] % 5 is [1..4]
abbrev pub RestRows : Type 0
RestRows =
    ((at : Span) → IsImage (rest_result (pos 5)) at (from_to (pos 8) (pos 11) ∷ [])
    (Ok (from_to (pos 0) (pos 4)))) × ((at : Span)
    → IsImage (rest_result (pos 5)) at (from_to (pos 6) (pos 9) ∷ [])
    (Ok (from_to (pos 1) (pos 4))))

-- abs([-3..2]) is [0..3]
abbrev pub MagnitudeRow : Type 0
MagnitudeRow =
    (at : Span) → IsImage (called_result Abs) at (from_to (negsuc 2) (pos 2) ∷ [])
    (Ok (from_to (pos 0) (pos 3)))

-- [0..3] < [3..5] is undecided, [0..2] < [3..5] true
abbrev pub ComparisonRows : Type 0
ComparisonRows =
    ((at : Span) → IsLeastResult Less at (from_to (pos 0) (pos 3)) (from_to (pos 3) (pos 5))
    (Ok (from_to (pos 0) (pos 1)))) × ((at : Span)
    → IsLeastResult Less at (from_to (pos 0) (pos 2)) (from_to (pos 3) (pos 5))
    (Ok (from_to (pos 1) (pos 1))))

-- what is drafted in one branch alone is perhaps drafted; what both surely draft is sure, in the
-- hull
abbrev pub DraftRows : Type 0
DraftRows = IsDraftJoin (Sure (from_to (pos 1) (pos 2))) Absent (Maybe (from_to (pos 1) (pos 2)))
    × IsDraftJoin (Sure (from_to (pos 1) (pos 2))) (Sure (from_to (pos 5) (pos 6)))
    (Sure (from_to (pos 1) (pos 6)))
    × IsDraftJoin (Maybe (from_to (pos 1) (pos 2))) (Sure (from_to (pos 5) (pos 6)))
    (Maybe (from_to (pos 1) (pos 6)))
