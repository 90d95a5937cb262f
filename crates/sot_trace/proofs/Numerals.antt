-- What the code prints of a number is its text.
use Rattle.std.proofs.Common.{◌≡◌, ℕ, zero, suc, ℤ, pos, negsuc, ◌+◌, ◌/◌, ◌%◌, ◌<◌, ◌≤◌, ◌^◌, List, [], ◌∷◌, ◌++◌, true, map, refl, sym}
use Rattle.std.proofs.Common.{ap, ap₂, ◌∙◌, arith}
use Rattle.std.specs.Prelude.{int_le, nat_abs}
use Rattle.std.specs.Fmt.{decimal, signed_decimal}
use Rattle.std.specs.Int.Digits.{digits_of}
use Rattle.std.specs.Int.Signed.{mag}
use Rattle.std.proofs.lemmas.Bool.Decides.{nat_tests}
use Rattle.std.proofs.lemmas.Fmt.{decimal_by_steps_wide}
use Rattle.std.proofs.lemmas.Int.Digits.{digits_of_step}
use Rattle.std.proofs.lemmas.List.{map_push}
use Rattle.sot_trace.specs.Numbers.{numeral, signed_numeral}
use Rattle.sot_trace.proofs.NumberTexts.{digits_are}

-- a number above 0 has the digits of its parts
pub above_none : (n : ℕ) → 0 < n → numeral n ≡ map (λ d. 48 + d) (digits_of 10 n)
above_none zero some = absurd (omega arith)
above_none (suc n) some = digits_are n

-- a number below 10 is its digit
pub one_digit : (n : ℕ) → n < 10 → (48 + n) ∷ [] ≡ numeral n
one_digit zero small = refl
one_digit (suc n) small =
    let none : suc n / 10 ≡ 0 = omega arith in
    let last : suc n % 10 ≡ suc n = omega arith in
    sym (digits_are n ∙ ap (map (λ d. 48 + d)) (digits_of_step 10 (suc n) (omega arith) (omega arith) ∙ ap₂ (λ k d. digits_of 10 k ++ (d ∷ [])) none last))

-- a number from 0 to 9 is its digit
pub digit_is : (z : ℤ) → int_le (pos 0) z ≡ true → int_le z (pos 9) ≡ true → signed_numeral z ≡ (48 + nat_abs z) ∷ []
digit_is (pos n) some small = (let few : n < 10 = grind (arith, nat_tests) in sym (one_digit n few))
digit_is (negsuc n) some small = absurd cc

-- a number from -9 to -1 is its digit behind a minus
pub digit_below_is : (z : ℤ) → int_le (negsuc 8) z ≡ true → int_le z (negsuc 0) ≡ true → signed_numeral z ≡ 45 ∷ (48 + nat_abs z) ∷ []
digit_below_is (pos n) some small = absurd cc
digit_below_is (negsuc n) some small = (let few : suc n < 10 = grind (arith, nat_tests) in ap (λ x. 45 ∷ x) (sym (one_digit (suc n) few)))

-- a number above 9 is the number of its front, and its last digit
pub last_digit : (n : ℕ) (front : List ℕ) → 10 ≤ n → front ≡ numeral (n / 10) → front ++ ((48 + n % 10) ∷ []) ≡ numeral n
last_digit n front large is =
    ap (λ x. x ++ ((48 + n % 10) ∷ [])) (is ∙ above_none (n / 10) (omega arith))
    ∙ sym (map_push (λ d. 48 + d) (digits_of 10 (n / 10)) (n % 10))
    ∙ ap (map (λ d. 48 + d)) (sym (digits_of_step 10 n (omega arith) (omega arith)))
    ∙ sym (above_none n (omega arith))

-- what is printed has at most 64 digits
pub decimal_is : (n : ℕ) → n < 10 ^ 64 → decimal n ≡ numeral n
decimal_is = decimal_by_steps_wide (λ n text. text ≡ numeral n) one_digit last_digit

pub signed_decimal_is : (z : ℤ) → mag z < 2 ^ 63 → signed_decimal z ≡ signed_numeral z
signed_decimal_is (pos n) small = decimal_is n (omega arith)
signed_decimal_is (negsuc n) small = ap (λ x. 45 ∷ x) (decimal_is (suc n) (omega arith))
