-- Products of 64-bit words in 128 bits.
use Rattle.std.proofs.Common.{◌≡◌, ◌^◌, ◌≤◌, ◌*ℤ◌, ℤ, pos, negsuc, FitsSigned, to_z, of_z, ⊎_elim, refl, arith, w64}
use mir.Syntax.{w128}
use Rattle.std.specs.Prelude.{unsigned_abs, Ok}
use Rattle.std.proofs.lemmas.Bool.{cases_Bool}
use Rattle.std.proofs.lemmas.Int.{to_z-of_z, ints, fits_signed_mul}
use Rattle.sot_text.specs.declared.token.Span.{Span}
use Rattle.sot_lang.specs.declared.trap.TrapKind.TheVariants.{Wide}
use Rattle.sot_lang.specs.Values.{is_word, word, trap}
use Rattle.sot_lang.proofs.Words.{fits_is_word, is_word_fits}

pub abs_of_word : (a : ℤ) → FitsSigned w64 a → unsigned_abs a ≤ 2 ^ 63
abs_of_word (pos n) f = omega (arith, f.sfits)
abs_of_word (negsuc n) f = omega (arith, f.sfits)

pub product_fits : (a b : ℤ) → FitsSigned w64 a → FitsSigned w64 b → FitsSigned w128 (a *ℤ b)
product_fits a b fa fb = fits_signed_mul w128 a b (2 ^ 63) (2 ^ 63) (abs_of_word a fa) (abs_of_word b fb) (omega arith)

pub widens : (a : ℤ) → FitsSigned w64 a → to_z w128 (of_z w128 (to_z w64 (of_z w64 a))) ≡ a
widens a f = omega (arith, ints)

pub product_is : (a b : ℤ) → FitsSigned w64 a → FitsSigned w64 b
    → to_z w128 (of_z w128 (to_z w128 (of_z w128 (to_z w64 (of_z w64 a))) *ℤ to_z w128 (of_z w128 (to_z w64 (of_z w64 b))))) ≡ a *ℤ b
product_is a b fa fb = rw (widens a fa, widens b fb) (to_z-of_z w128 (a *ℤ b) (product_fits a b fa fb))

pub word_fits : (at : Span) (z : ℤ) → FitsSigned w64 z → word at z ≡ Ok z
word_fits at z f = rw (fits_is_word z f) refl

pub word_wide : (at : Span) (z : ℤ) → (FitsSigned w64 z → ⊥) → word at z ≡ trap at Wide
word_wide at z f = ⊎_elim (λ t. absurd (f (is_word_fits z t))) (λ e. rw e refl) (cases_Bool (is_word z))
