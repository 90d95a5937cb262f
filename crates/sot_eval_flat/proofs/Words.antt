-- What is in 64 bits.
use Rattle.std.proofs.Common.{◌≡◌, ◌≤ℤ◌, ◌-ℤ◌, neg_ℤ, ℤ, pos, negsuc, zero, suc, FitsSigned, w64, ap, ◌∙◌, sym, refl, arith}
use Rattle.std.proofs.lemmas.Int.{ints}
use Rattle.std.specs.Prelude.{Ok}
use Rattle.sot_text.specs.declared.token.Span.{Span}
use Rattle.sot_lang.specs.Values.{word, quotient, floor_div}
use Rattle.sot_code.proofs.Words.{word_fits}

pub fits : (z : ℤ) → FitsSigned w64 z → (at : Span) → word at z ≡ Ok z
fits z f at = word_fits at z f

pub less_than_zero : (a : ℤ) → neg_ℤ a ≡ pos 0 -ℤ a
less_than_zero a = omega (arith, ints)

-- a quotient by a number above 0
pub above : (a b q : ℤ) → pos 1 ≤ℤ b → q ≡ floor_div a b → FitsSigned w64 q → (at : Span) → quotient at a b ≡ Ok q
above a (pos zero) q h is f at = absurd (omega (arith, ints, h))
above a (pos (suc b)) q h is f at = ap (λ z. word at z) (sym is) ∙ word_fits at q f
above a (negsuc b) q h is f at = absurd (omega (arith, ints, h))

-- a quotient by any number but 0
pub quotient_is : (a b : ℤ) → (b ≡ pos 0 → ⊥) → (at : Span) → quotient at a b ≡ word at (floor_div a b)
quotient_is a (pos zero) h at = absurd (h refl)
quotient_is a (pos (suc b)) h at = refl
quotient_is a (negsuc b) h at = refl
