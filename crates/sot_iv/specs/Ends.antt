-- The least intervals of operators by the ends of their operands' intervals: how the code works.
use Rattle.std.specs.Prelude.{ℕ, ◌-◌, ◌^◌, ℤ, pos, ◌+ℤ◌, ◌-ℤ◌, ◌*ℤ◌, neg_ℤ, Bool, if◌then◌else◌}
use Rattle.std.specs.Prelude.{◌&&◌, ◌||◌, not, int_lt, int_le, Ok, Err}
use Rattle.std.specs.Int.{int_min, int_max}
use Rattle.sot_text.specs.declared.token.Span.{Span}
use Rattle.sot_syntax_tree.specs.declared.operator.Op.{Op}
use Rattle.sot_syntax_tree.specs.declared.operator.Op.TheVariants.{Add, Sub, Mul, Div, Less}
use Rattle.sot_syntax_tree.specs.declared.operator.Op.TheVariants.{LessEqual}
use Rattle.sot_syntax_tree.specs.declared.operator.Op.TheVariants.{Greater, GreaterEqual, Equal}
use Rattle.sot_syntax_tree.specs.declared.operator.Op.TheVariants.{NotEqual}
use Rattle.sot_syntax_tree.specs.declared.operator.Op.TheVariants.{And, Or}
use Rattle.sot_lang.specs.declared.trap.TrapKind.TheVariants.{ZeroDivisor, Wide}
use Rattle.sot_box.specs.Sides.{Side}
use Rattle.sot_lang.specs.Values.{is_word, truth, floor_by, floor_div}
use Rattle.sot_iv.specs.TermIntervals.{OrMayTrap}

abbrev pub side : ℤ → ℤ → Side
side lo hi = record { lo = lo; hi = hi }

-- the interval where it is in 64 bits, else the trap
abbrev pub fitted : Span → Side → OrMayTrap Side
fitted at r =
    if is_word r.lo && is_word r.hi then Ok r else Err
    (record { at = at; kind = Wide; lo = r.lo; hi = r.hi })

abbrev pub sum : Side → Side → Side
sum a b = side (a.lo +ℤ b.lo) (a.hi +ℤ b.hi)

abbrev pub difference : Side → Side → Side
difference a b = side (a.lo -ℤ b.hi) (a.hi -ℤ b.lo)

-- the least and the greatest of four numbers
abbrev pub least_of : ℤ → ℤ → ℤ → ℤ → ℤ
least_of p q r s = int_min (int_min p q) (int_min r s)

abbrev pub greatest_of : ℤ → ℤ → ℤ → ℤ → ℤ
greatest_of p q r s = int_max (int_max p q) (int_max r s)

-- the least and the greatest of the results at the four pairs of ends
abbrev pub by_corners : (ℤ → ℤ → ℤ) → Side → Side → Side
by_corners f a b =
    side (least_of (f a.lo b.lo) (f a.lo b.hi) (f a.hi b.lo) (f a.hi b.hi))
    (greatest_of (f a.lo b.lo) (f a.lo b.hi) (f a.hi b.lo) (f a.hi b.hi))

abbrev pub product : Side → Side → Side
product a b = by_corners (λ x y. x *ℤ y) a b

abbrev pub quotient : Side → Side → Side
quotient a b = by_corners floor_div a b

abbrev pub holds_zero : Side → Bool
holds_zero r = int_le r.lo (pos 0) && int_le (pos 0) r.hi

-- the quotients, where no divisor is 0
unfoldable pub quotient_or_trap : Span → Side → Side → OrMayTrap Side
quotient_or_trap at a b =
    if holds_zero b then Err (record { at = at; kind = ZeroDivisor; lo = b.lo; hi = b.hi }) else
    fitted at (quotient a b)

-- every number of the interval is true; some number is
abbrev pub is_always : Side → Bool
is_always r = not (holds_zero r)

abbrev pub is_ever : Side → Bool
is_ever r = not (int_le (pos 0) r.lo && int_le r.hi (pos 0))

-- from whether it always holds, and whether it ever holds
abbrev pub truths : Bool → Bool → Side
truths always ever = side (truth always) (truth ever)

-- the rests of the ends where their floor quotients are equal, else all rests
abbrev pub rest : ℤ → Side → Side
rest by a =
    if int_le (floor_div a.hi by) (floor_div a.lo by)
    then side (a.lo -ℤ (by *ℤ floor_div a.lo by)) (a.hi -ℤ (by *ℤ floor_div a.hi by))
    else side (pos 0) (by -ℤ pos 1)

abbrev pub negation : Side → Side
negation a = side (neg_ℤ a.hi) (neg_ℤ a.lo)

-- from 0 on where the interval holds 0
abbrev pub magnitude : Side → Side
magnitude a =
    if int_le (pos 0) a.lo then a
    else (if int_le a.hi (pos 0) then negation a else side (pos 0) (int_max (neg_ℤ a.lo) a.hi))

abbrev pub least_side : Side → Side → Side
least_side a b = side (int_min a.lo b.lo) (int_min a.hi b.hi)

abbrev pub greatest_side : Side → Side → Side
greatest_side a b = side (int_max a.lo b.lo) (int_max a.hi b.hi)

abbrev pub clamped : Side → Side → Side → Side
clamped a l h = greatest_side l (least_side a h)

-- ten to the power of n
abbrev pub times_ten : ℕ → ℕ
times_ten n = 10 ^ n

-- a number at another count of decimals
abbrev pub scaled_to : ℕ → ℕ → ℤ → ℤ
scaled_to from to a = floor_by (a *ℤ pos (times_ten (to - from))) (times_ten (from - to))

abbrev pub rescaled : ℕ → ℕ → Side → Side
rescaled from to a = side (scaled_to from to a.lo) (scaled_to from to a.hi)

-- the hull of two intervals
abbrev pub hull : Side → Side → Side
hull a b = side (int_min a.lo b.lo) (int_max a.hi b.hi)

-- the interval of an operator
abbrev pub operated : Op → Span → Side → Side → OrMayTrap Side
operated Add at a b = fitted at (sum a b)
operated Sub at a b = fitted at (difference a b)
operated Mul at a b = fitted at (product a b)
operated Div at a b = quotient_or_trap at a b
operated Less at a b = Ok (truths (int_lt a.hi b.lo) (int_lt a.lo b.hi))
operated LessEqual at a b = Ok (truths (int_le a.hi b.lo) (int_le a.lo b.hi))
operated Greater at a b = Ok (truths (int_lt b.hi a.lo) (int_lt b.lo a.hi))
operated GreaterEqual at a b = Ok (truths (int_le b.hi a.lo) (int_le b.lo a.hi))
operated Equal at a b =
    Ok (truths (int_le a.hi b.lo && int_le b.hi a.lo) (int_le a.lo b.hi && int_le b.lo a.hi))
operated NotEqual at a b =
    Ok (truths (not (int_le a.lo b.hi && int_le b.lo a.hi))
    (not (int_le a.hi b.lo && int_le b.hi a.lo)))
operated And at a b = Ok (truths (is_always a && is_always b) (is_ever a && is_ever b))
operated Or at a b = Ok (truths (is_always a || is_always b) (is_ever a || is_ever b))

-- the interval of a denial
abbrev pub denied : Side → Side
denied a = truths (not (is_ever a)) (not (is_always a))
