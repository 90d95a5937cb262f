-- Periods, offsets and loop counts in which no rule fails.
use Rattle.std.proofs.Common.{◌≡◌, ◌<◌, ◌≤◌, ◌==◌, ℤ, pos, negsuc, ◌≤ℤ◌, int_le, int_lt, nat_abs, false, ◌||◌, arith}
use Rattle.std.proofs.lemmas.Bool.{not-false, false_from_ne_true}
use Rattle.std.proofs.lemmas.Int.{ints}
use Rattle.sot_text.specs.declared.token.Span.{Span}
use Rattle.sot_syntax_tree.specs.declared.tree.Lit.{Lit}
use Rattle.sot_rules.specs.declared.fault.TypeKind.{TypeKind}
use Rattle.sot_rules.specs.declared.fault.TypeKind.TheVariants.{ScaleDiffers, PeriodOutside}
use Rattle.sot_syntax_tree.specs.Formed.{IsNumber}
use Rattle.sot_rules.specs.Fails.{TimesFail, period_decimals, offset_decimals, period_off, offset_late}
use Rattle.sot_rules.specs.TreeSorts.{has_decimals}
use Rattle.sot_rules.specs.Tests.{is_off, is_late}
use Rattle.sot_typing.proofs.Tests.{and_tail}

counted : (z : ℤ) → pos 0 ≤ℤ z → (int_lt z (pos 1) || int_lt (pos 1000) z) ≡ false → (1 ≤ nat_abs z) × (nat_abs z ≤ 1000)
counted (pos n) h e = (grind (arith, ints), grind (arith, ints))
counted (negsuc n) h e = absurd (omega (arith, ints))

-- a count is 1 to 1,000
pub count_is : (l : Lit) → pos 0 ≤ℤ l.mantissa → has_decimals l ≡ false → is_off l ≡ false → (1 ≤ nat_abs l.mantissa) × (nat_abs l.mantissa ≤ 1000)
count_is l h d e = counted l.mantissa h (and_tail (l.scale == 0) _ (not-false (l.scale == 0) d) e)

before : (x y : ℤ) → pos 0 ≤ℤ x → pos 0 ≤ℤ y → int_le y x ≡ false → nat_abs x < nat_abs y
before (pos m) (pos n) h k e = grind (arith, ints)
before (negsuc m) y h k e = absurd (omega (arith, ints))
before (pos m) (negsuc n) h k e = absurd (omega (arith, ints))

-- a period is at most 1,000, and an offset is below it
pub times_are : (period offset : Lit) → IsNumber period → IsNumber offset → ((at : Span) (k : TypeKind) → TimesFail period offset at k → ⊥)
    → (nat_abs period.mantissa ≤ 1000) × (nat_abs offset.mantissa < nat_abs period.mantissa)
times_are period offset f g none =
    let a = false_from_ne_true (has_decimals period) (λ e. none period.at ScaleDiffers (period_decimals e)) in
    let b = false_from_ne_true (has_decimals offset) (λ e. none offset.at ScaleDiffers (offset_decimals e)) in
    let c = false_from_ne_true (is_off period) (λ e. none period.at PeriodOutside (period_off e)) in
    let d = false_from_ne_true (is_late period offset) (λ e. none offset.at PeriodOutside (offset_late e)) in
    let n = count_is period f.1 a c in (
      n.1,
      before offset.mantissa period.mantissa g.1 f.1 (and_tail (offset.scale == 0) _ (not-false (offset.scale == 0) b)
          (and_tail (period.scale == 0) _ (not-false (period.scale == 0) a) d)),
    )
