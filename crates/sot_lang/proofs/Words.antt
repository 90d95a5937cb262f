-- A number is in 64 bits exactly where it fits the type of 64 bits.
use Rattle.std.proofs.Common.{◌≡◌, ℤ, pos, negsuc, FitsSigned, true, arith, w64}
use Rattle.std.proofs.lemmas.Int.{ints}
use Rattle.sot_lang.specs.Values.{is_word}

pub fits_is_word : (z : ℤ) → FitsSigned w64 z → is_word z ≡ true
fits_is_word (pos n) f = grind (arith, ints, f.sfits)
fits_is_word (negsuc n) f = grind (arith, ints, f.sfits)

pub is_word_fits : (z : ℤ) → is_word z ≡ true → FitsSigned w64 z
is_word_fits (pos n) e = record { sfits = grind (arith, ints, e) }
is_word_fits (negsuc n) e = record { sfits = grind (arith, ints, e) }
