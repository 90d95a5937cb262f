-- The decimals of numbers, as words.
use Rattle.std.proofs.Common.{◌≡◌, ℕ, zero, suc, ◌<◌, ◌≤◌, ◌^◌, ◌==◌, List, [], ◌∷◌, false, length, get_or, refl, sym, ap, ◌∙◌, arith}
use Rattle.std.proofs.lemmas.Bool.Decides.{nat_tests}
use Rattle.std.specs.Fmt.{decimal}
use Rattle.std.proofs.lemmas.Fmt.{decimal_nonempty, first_decimal, decimal_digit}
use Rattle.sot_commands.specs.WordParser.{is_dashed}

digit_plain : (x : ℕ) → 48 ≤ x → (x == 45) ≡ false
digit_plain x digit = grind (arith, nat_tests)

first_digit : (n : ℕ) → n < 2 ^ 64 → (x : ℕ) (xs : List ℕ) → decimal n ≡ x ∷ xs → 48 ≤ x
first_digit zero fits x xs is = (let e = sym is ∙ decimal_digit 0 (omega arith) in let same : x ≡ 48 = cc in omega (arith, same))
first_digit (suc n) fits x xs is =
    let more = first_decimal (suc n) (omega arith) fits in
    let first : get_or (decimal (suc n)) 0 0 ≡ x = ap (λ l. get_or l 0 0) is in
    omega (arith, more, first)

-- a decimal is a digit with digits behind it, and no digit is '-'
pub plain_decimal : (n : ℕ) → n < 2 ^ 64 → (x : ℕ) × (xs : List ℕ) × (decimal n ≡ x ∷ xs) × ((x == 45) ≡ false)
plain_decimal n fits = shaped (decimal n) refl
  where
    shaped : (l : List ℕ) → decimal n ≡ l → (x : ℕ) × (xs : List ℕ) × (decimal n ≡ x ∷ xs) × ((x == 45) ≡ false)
    shaped [] is = (let some = decimal_nonempty n fits in let none : length (decimal n) ≡ 0 = ap length is in absurd (omega (arith, some, none)))
    shaped (x ∷ xs) is = (x, xs, is, digit_plain x (first_digit n fits x xs is))

pub dashless : (n : ℕ) → n < 2 ^ 64 → is_dashed (decimal n) ≡ false
dashless n fits = (let d = plain_decimal n fits in ap is_dashed d.2 ∙ d.3)
