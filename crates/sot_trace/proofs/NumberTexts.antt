-- What the texts of numbers are made of, and that they tell the numbers.
use Rattle.std.proofs.Common.{◌≡◌, ℕ, zero, suc, ℤ, pos, negsuc, ◌+◌, ◌/◌, ◌%◌, ◌<◌, ◌==◌, Bool, true, false, ◌||◌, List, [], ◌∷◌, ◌++◌, length, get_or, map}
use Rattle.std.proofs.Common.{refl, sym, ap, subst, ◌∙◌, arith, drop, append_assoc, length-append}
use Rattle.std.specs.Int.Digits.{digits_with_fuel, digits_of, AllBelowBase}
use Rattle.std.specs.Char.{is_ascii_digit}
use Rattle.std.proofs.lemmas.Int.Digits.{same_from_digits_of, all_below_base_digits_of, first_digits_of, length-digits_of_step}
use Rattle.std.proofs.lemmas.List.{length-map, map_push, append-nil}
use Rattle.std.proofs.lemmas.Bool.{cond-false}
use Rattle.std.proofs.lemmas.Bool.Decides.{nat_tests}
use Rattle.sot_trace.specs.Numbers.{digits_before, numeral, signed_numeral, further, numbers}
use Rattle.sot_trace.proofs.Splits.{AllIn, Stops, both_in, in_wider, cut_same}

-- a digit or a minus
abbrev pub in_number : ℕ → Bool
in_number b = is_ascii_digit b || b == 45

-- the same, or a comma
abbrev pub in_numbers : ℕ → Bool
in_numbers b = in_number b || b == 44

no_none : (n : ℕ) → (suc n == 0) ≡ false
no_none n = grind (arith, nat_tests)

before_is : (steps n : ℕ) (text : List ℕ) → digits_before steps n text ≡ map (λ d. 48 + d) (digits_with_fuel 10 steps n) ++ text
before_is zero n text = refl
before_is (suc steps) zero text = refl
before_is (suc steps) (suc n) text =
    let front = digits_with_fuel 10 steps (suc n / 10) in
    let step : digits_with_fuel 10 (suc steps) (suc n) ≡ front ++ (suc n % 10 ∷ []) = cond-false (suc n == 0) _ _ (no_none n) in
    before_is steps (suc n / 10) ((48 + suc n % 10) ∷ text)
    ∙ sym (append_assoc (map (λ d. 48 + d) front) ((48 + suc n % 10) ∷ []) text)
    ∙ ap (λ x. x ++ text) (sym (ap (map (λ d. 48 + d)) step ∙ map_push (λ d. 48 + d) front (suc n % 10)))

-- a number above 0 is its digits
pub digits_are : (n : ℕ) → numeral (suc n) ≡ map (λ d. 48 + d) (digits_of 10 (suc n))
digits_are n = before_is (suc n) (suc n) [] ∙ append-nil (map (λ d. 48 + d) (digits_of 10 (suc n)))

digit_in : (d : ℕ) → d < 10 → is_ascii_digit (48 + d) ≡ true
digit_in d low = grind (arith, nat_tests)

digit_wider : (b : ℕ) → is_ascii_digit b ≡ true → in_number b ≡ true
digit_wider b is = rw is refl

digits_in : (ds : List ℕ) → AllBelowBase 10 ds → AllIn is_ascii_digit (map (λ d. 48 + d) ds)
digits_in [] h = tt
digits_in (d ∷ ds) h = (digit_in d h.0, digits_in ds h.1)

pub numeral_digits : (n : ℕ) → AllIn is_ascii_digit (numeral n)
numeral_digits zero = (refl, tt)
numeral_digits (suc n) =
    subst (AllIn is_ascii_digit) (sym (digits_are n)) (digits_in (digits_of 10 (suc n)) (all_below_base_digits_of 10 (suc n) (omega arith)))

pub numeral_in : (n : ℕ) → AllIn in_number (numeral n)
numeral_in n = in_wider is_ascii_digit in_number digit_wider (numeral n) (numeral_digits n)

-- a number has a digit
pub numeral_some : (n : ℕ) → 0 < length (numeral n)
numeral_some zero = omega arith
numeral_some (suc n) =
    omega (arith, ap length (digits_are n), length-map (digits_of 10 (suc n)) (λ d. 48 + d), length-digits_of_step 10 (suc n) (omega arith) (omega arith))

pub signed_in : (z : ℤ) → AllIn in_number (signed_numeral z)
signed_in (pos n) = numeral_in n
signed_in (negsuc n) = (refl, numeral_in (suc n))

signed_some : (z : ℤ) → 0 < length (signed_numeral z)
signed_some (pos n) = numeral_some n
signed_some (negsuc n) = omega arith

digits_same : (ds es : List ℕ) → map (λ d. 48 + d) ds ≡ map (λ d. 48 + d) es → ds ≡ es
digits_same [] [] same = refl
digits_same [] (e ∷ es) same = absurd cc
digits_same (d ∷ ds) [] same = absurd cc
digits_same (d ∷ ds) (e ∷ es) same =
    let one : 48 + d ≡ 48 + e = cc in
    let first : d ≡ e = omega (arith, one) in
    let rest : ds ≡ es = digits_same ds es (ap (drop 1) same) in
    cc

no_zero : (ds : List ℕ) → 0 < get_or ds 0 0 → map (λ d. 48 + d) ds ≡ 48 ∷ [] → ⊥
no_zero [] some same = absurd cc
no_zero (d ∷ ds) some same = (let one : 48 + d ≡ 48 = cc in omega (arith, one, some))

-- the digits of a number tell the number
pub numeral_same : (m n : ℕ) → numeral m ≡ numeral n → m ≡ n
numeral_same zero zero same = refl
numeral_same zero (suc n) same = absurd (no_zero (digits_of 10 (suc n)) (first_digits_of 10 (suc n) (omega arith) (omega arith)) (sym (same ∙ digits_are n)))
numeral_same (suc m) zero same = absurd (no_zero (digits_of 10 (suc m)) (first_digits_of 10 (suc m) (omega arith) (omega arith)) (sym (digits_are m) ∙ same))
numeral_same (suc m) (suc n) same =
    same_from_digits_of 10 (suc m) (suc n) (omega arith) (digits_same (digits_of 10 (suc m)) (digits_of 10 (suc n)) (sym (digits_are m) ∙ same ∙ digits_are n))

no_minus : (n : ℕ) (rest : List ℕ) → numeral n ≡ 45 ∷ rest → ⊥
no_minus n rest same = (let never : false ≡ true = (subst (AllIn is_ascii_digit) same (numeral_digits n)).0 in absurd cc)

pub signed_same : (y z : ℤ) → signed_numeral y ≡ signed_numeral z → y ≡ z
signed_same (pos m) (pos n) same = ap pos (numeral_same m n same)
signed_same (pos m) (negsuc n) same = absurd (no_minus m (numeral (suc n)) same)
signed_same (negsuc m) (pos n) same = absurd (no_minus n (numeral (suc m)) (sym same))
signed_same (negsuc m) (negsuc n) same = (let more : suc m ≡ suc n = numeral_same (suc m) (suc n) (ap (drop 1) same) in ap negsuc (omega (arith, more)))

more_in : (b : ℕ) → in_number b ≡ true → in_numbers b ≡ true
more_in b is = rw is refl

further_in : (xs : List ℤ) → AllIn in_numbers (further xs)
further_in [] = tt
further_in (x ∷ xs) =
    (refl, both_in in_numbers (signed_numeral x) (further xs) (in_wider in_number in_numbers more_in (signed_numeral x) (signed_in x)) (further_in xs))

pub numbers_in : (xs : List ℤ) → AllIn in_numbers (numbers xs)
numbers_in [] = tt
numbers_in (x ∷ xs) =
    both_in in_numbers (signed_numeral x) (further xs) (in_wider in_number in_numbers more_in (signed_numeral x) (signed_in x)) (further_in xs)

further_stops : (xs : List ℤ) → Stops in_number (further xs)
further_stops [] = tt
further_stops (x ∷ xs) = refl

further_same : (xs ys : List ℤ) → further xs ≡ further ys → xs ≡ ys
further_same [] [] same = refl
further_same [] (y ∷ ys) same = absurd cc
further_same (x ∷ xs) [] same = absurd cc
further_same (x ∷ xs) (y ∷ ys) same =
    let parts = cut_same in_number (signed_numeral x) (signed_numeral y) (further xs) (further ys) (signed_in x) (signed_in y) (further_stops xs)
    (further_stops ys) (ap (drop 1) same) in
    let first : x ≡ y = signed_same x y parts.0 in
    let rest : xs ≡ ys = further_same xs ys parts.1 in
    cc

-- the text of numbers tells the numbers, and how many they are
pub numbers_same : (xs ys : List ℤ) → numbers xs ≡ numbers ys → xs ≡ ys
numbers_same [] [] same = refl
numbers_same [] (y ∷ ys) same = absurd (omega (arith, signed_some y, ap length same, length-append (signed_numeral y) (further ys)))
numbers_same (x ∷ xs) [] same = absurd (omega (arith, signed_some x, ap length same, length-append (signed_numeral x) (further xs)))
numbers_same (x ∷ xs) (y ∷ ys) same = further_same (x ∷ xs) (y ∷ ys) (ap (λ text. 44 ∷ text) same)
