-- Numbers of 64 bits in 128 bits.
use Rattle.std.proofs.Common.{◌≡◌, false, ◌<◌, ℤ, pos, negsuc, ◌≤ℤ◌, FitsSigned, to_z, of_z, w64, ap, ap₂, sym, subst, ◌∙◌, refl, arith}
use Rattle.std.specs.Prelude.{Ok}
use mir.Syntax.{w128}
use lib.Signed.{mag}
use Rattle.std.proofs.lemmas.Int.{ints, clamps, to_z-of_z}
use Rattle.sot_text.specs.declared.token.Span.{Span}
use Rattle.sot_box.specs.Sides.{Side}
use Rattle.sot_lang.proofs.Words.{fits_is_word}
use Rattle.sot_iv.specs.Ends.{side, fitted, least_of, greatest_of, holds_zero, quotient, quotient_or_trap}

pub wide : (z : ℤ) → mag z < 170141183460469231731687303715884105728 → to_z w128 (of_z w128 z) ≡ z
wide z h = to_z-of_z w128 z (record { sfits = h })

pub word : (z : ℤ) → FitsSigned w64 z → to_z w64 (of_z w64 z) ≡ z
word z f = to_z-of_z w64 z f

-- a result in 128 bits of two numbers in 64
pub of_two : (f : ℤ → ℤ → ℤ) (p a c : ℤ) → FitsSigned w64 a → FitsSigned w64 c → mag p < 170141183460469231731687303715884105728
    → p ≡ f (to_z w64 (of_z w64 a)) (to_z w64 (of_z w64 c)) → to_z w128 (of_z w128 p) ≡ f a c
of_two f p a c fa fc h e = wide p h ∙ e ∙ ap₂ f (word a fa) (word c fc)

-- a result in 64 bits of two numbers in 64, where the test found that it fits
pub of_checked : (f : ℤ → ℤ → ℤ) (p a c : ℤ) → FitsSigned w64 a → FitsSigned w64 c
    → FitsSigned w64 (f (to_z w64 (of_z w64 a)) (to_z w64 (of_z w64 c))) × (p ≡ f (to_z w64 (of_z w64 a)) (to_z w64 (of_z w64 c)))
    → to_z w64 (of_z w64 p) ≡ f a c
of_checked f p a c fa fc e = word p (subst (FitsSigned w64) (sym e.1) e.0) ∙ e.1 ∙ ap₂ f (word a fa) (word c fc)

pub of_one : (f : ℤ → ℤ) (p a : ℤ) → FitsSigned w64 a → mag p < 170141183460469231731687303715884105728 → p ≡ f (to_z w64 (of_z w64 a))
    → to_z w128 (of_z w128 p) ≡ f a
of_one f p a fa h e = wide p h ∙ e ∙ ap f (word a fa)

pub fitted_same : (at : Span) (l m h k : ℤ) → l ≡ m → h ≡ k → fitted at (side l h) ≡ fitted at (side m k)
fitted_same at l m h k e f = ap₂ (λ x y. fitted at (side x y)) e f

pub corners_same : (at : Span) (p q r s p' q' r' s' : ℤ) → p ≡ p' → q ≡ q' → r ≡ r' → s ≡ s'
    → fitted at (side (least_of p q r s) (greatest_of p q r s)) ≡ fitted at (side (least_of p' q' r' s') (greatest_of p' q' r' s'))
corners_same at p q r s p' q' r' s' a b c d = rw (a, b, c, d) refl

pub in_order : (p q r s : ℤ) → least_of p q r s ≤ℤ greatest_of p q r s
in_order p q r s = omega (arith, ints, clamps)

pub least_same : (p q r s p' q' r' s' : ℤ) → p ≡ p' → q ≡ q' → r ≡ r' → s ≡ s' → least_of p q r s ≡ least_of p' q' r' s'
least_same p q r s p' q' r' s' a b c d = rw (a, b, c, d) refl

pub greatest_same : (p q r s p' q' r' s' : ℤ) → p ≡ p' → q ≡ q' → r ≡ r' → s ≡ s' → greatest_of p q r s ≡ greatest_of p' q' r' s'
greatest_same p q r s p' q' r' s' a b c d = rw (a, b, c, d) refl

-- with no divisor 0 there are the quotients
pub quotients_are : (at : Span) (a b : Side) → holds_zero b ≡ false → fitted at (quotient a b) ≡ quotient_or_trap at a b
unfolding quotient_or_trap
quotients_are at a b e = rw e refl

pub held_fits : (at : Span) (r : Side) → FitsSigned w64 r.lo → FitsSigned w64 r.hi → fitted at r ≡ Ok r
held_fits at r f g = rw (fits_is_word r.lo f, fits_is_word r.hi g) refl
