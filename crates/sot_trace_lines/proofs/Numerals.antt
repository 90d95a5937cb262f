-- A number's numeral is read as the number, and what is read as a number is its numeral.
use Rattle.std.proofs.Common.{◌≡◌, ℕ, zero, suc, ℤ, pos, negsuc, ◌+◌, ◌-◌, ◌*◌, ◌/◌, ◌%◌, ◌<◌, ◌==◌, not, Bool, true, false, List, [], ◌∷◌, ◌++◌, Some, None}
use Rattle.std.proofs.Common.{cond, length, get_or, take, drop, map, inl, inr, refl, sym, ap, ap₂, subst, ◌∙◌, arith, append_assoc, take-append-drop}
use Rattle.std.specs.List.{prefix_len}
use Rattle.std.specs.Char.{is_ascii_digit}
use Rattle.std.specs.Int.Digits.{digits_of}
use Rattle.std.proofs.lemmas.Int.Digits.{digits_of_step, first_digits_of}
use Rattle.std.proofs.lemmas.List.{map_push, append-nil}
use Rattle.std.proofs.Math.Seq.{take-append_seam, drop-append_seam}
use Rattle.std.proofs.lemmas.Bool.{cases_Bool, cond-true, cond-false}
use Rattle.std.proofs.lemmas.Option.{none-some}
use Rattle.std.proofs.lemmas.Bool.Decides.{nat_tests}
use Rattle.sot_text.specs.Lexeme.{value, with_digits}
use Rattle.sot_trace.specs.Numbers.{numeral, signed_numeral}
use Rattle.sot_trace.proofs.Splits.{AllIn, Stops}
use Rattle.sot_trace.proofs.NumberTexts.{digits_are, numeral_digits, numeral_same, numeral_some}
use Rattle.sot_trace.proofs.Numerals.{above_none}
use Rattle.sot_trace_lines.specs.Pieces.{◌>>=◌, is_plain, digits_at, numeral_at, minus, positive_at, negative_at, number_at}
use Rattle.sot_trace_lines.proofs.Pieces.{both, then_next, parts_same}

-- what stands before the first byte outside a class
pub front_in : (q : ℕ → Bool) (text : List ℕ) → AllIn q (take (prefix_len q text) text)
front_in q [] = tt
front_in q (b ∷ bs) =
    elim (cases_Bool (q b)) [
      | inl is ↦ (let len : prefix_len q (b ∷ bs) ≡ suc (prefix_len q bs) = cond-true (q b) _ _ is ∙ omega arith in
          subst (λ n. AllIn q (take n (b ∷ bs))) (sym len) (is, front_in q bs))
      | inr no' ↦ (let len : prefix_len q (b ∷ bs) ≡ 0 = cond-false (q b) _ _ no' in subst (λ n. AllIn q (take n (b ∷ bs))) (sym len) tt)
    ]

-- .. is a piece in the class, if the text does not go on with it
pub front_is : (q : ℕ → Bool) (front rest : List ℕ) → AllIn q front → Stops q rest → prefix_len q (front ++ rest) ≡ length front
front_is q [] [] all stops = refl
front_is q [] (b ∷ bs) all stops = cond-false (q b) _ _ stops
front_is q (b ∷ bs) rest all stops = cond-true (q b) _ _ all.0 ∙ ap (λ n. 1 + n) (front_is q bs rest all.1 stops) ∙ omega arith

small_digit : (n : ℕ) → n < 10 → numeral n ≡ (48 + n) ∷ []
small_digit zero low = refl
small_digit (suc n) low =
    let whole : suc n / 10 ≡ 0 = omega arith in
    let last : suc n % 10 ≡ suc n = omega arith in
    digits_are n ∙ ap (map (λ d. 48 + d)) (digits_of_step 10 (suc n) (omega arith) (omega arith) ∙ ap₂ (λ a b. digits_of 10 a ++ (b ∷ [])) whole last)

more_digit : (n d : ℕ) → 0 < n → d < 10 → numeral (10 * n + d) ≡ numeral n ++ ((48 + d) ∷ [])
more_digit n d some low =
    let whole : (10 * n + d) / 10 ≡ n = omega arith in
    let last : (10 * n + d) % 10 ≡ d = omega arith in
    above_none (10 * n + d) (omega arith)
    ∙ ap (map (λ c. 48 + c)) (digits_of_step 10 (10 * n + d) (omega arith) (omega arith) ∙ ap₂ (λ a b. digits_of 10 a ++ (b ∷ [])) whole last)
    ∙ map_push (λ c. 48 + c) (digits_of 10 n) d
    ∙ ap (λ x. x ++ ((48 + d) ∷ [])) (sym (above_none n some))

digit_is : (d : ℕ) → is_ascii_digit d ≡ true → (d - 48 < 10) × (48 + (d - 48) ≡ d)
digit_is d is = (grind (arith, nat_tests), grind (arith, nat_tests))

-- digits behind a number above 0
digits_on : (n : ℕ) (ds : List ℕ) → 0 < n → AllIn is_ascii_digit ds → numeral (with_digits n ds) ≡ numeral n ++ ds
digits_on n [] some all = sym (append-nil (numeral n))
digits_on n (d ∷ ds) some all =
    let is = digit_is d all.0 in
    digits_on (10 * n + (d - 48)) ds (omega arith) all.1
    ∙ ap (λ x. x ++ ds) (more_digit n (d - 48) some is.0)
    ∙ append_assoc (numeral n) ((48 + (d - 48)) ∷ []) ds
    ∙ ap (λ b. numeral n ++ (b ∷ ds)) is.1

first_is : (d : ℕ) → is_ascii_digit d ≡ true → numeral (10 * 0 + (d - 48)) ≡ d ∷ []
first_is d is =
    (let at = digit_is d is in let same : 10 * 0 + (d - 48) ≡ d - 48 = omega arith in ap numeral same ∙ small_digit (d - 48) at.0 ∙ ap (λ b. b ∷ []) at.1)

not_nought : (d : ℕ) → is_ascii_digit d ≡ true → not (d == 48) ≡ true → 0 < 10 * 0 + (d - 48)
not_nought d is some = grind (arith, nat_tests)

-- digits in form are the numeral of their number
plain_is : (ds : List ℕ) → is_plain ds ≡ true → AllIn is_ascii_digit ds → numeral (value ds) ≡ ds
plain_is [] plain all = absurd cc
plain_is (d ∷ []) plain all = first_is d all.0
plain_is (d ∷ e ∷ ds) plain all =
    digits_on (10 * 0 + (d - 48)) (e ∷ ds) (not_nought d all.0 plain) all.1 ∙ ap (λ x. x ++ (e ∷ ds)) (first_is d all.0)

-- what digits_at gives
digits_from : (text ds rest : List ℕ) → digits_at text ≡ Some (ds, rest) → (is_plain ds ≡ true) × AllIn is_ascii_digit ds × (text ≡ ds ++ rest)
digits_from text ds rest e =
    let k : ℕ = prefix_len is_ascii_digit text in
    elim (cases_Bool (is_plain (take k text))) [
      | inl yes' ↦ (
          let are : Some (take k text, drop k text) ≡ Some (ds, rest) = sym (cond-true (is_plain (take k text)) _ _ yes') ∙ e in
          let same = parts_same (take k text) ds (drop k text) rest are in
          let first : take k text ≡ ds = same.0 in
          let second : drop k text ≡ rest = same.1 in (
            sym (ap is_plain first) ∙ yes',
            subst (AllIn is_ascii_digit) first (front_in is_ascii_digit text),
            sym (take-append-drop k text)
                ∙ ap₂ (λ a b. a ++ b) first second,
          )
          )
      | inr no' ↦ absurd (none-some (ds, rest) (sym (cond-false (is_plain (take k text)) _ _ no') ∙ e))
    ]

pub numeral_from : (text : List ℕ) (n : ℕ) (rest : List ℕ) → numeral_at text ≡ Some (n, rest) → text ≡ numeral n ++ rest
numeral_from text n rest e =
    let s = both (digits_at text) (λ c. Some (value c.0, c.1)) (n, rest) e in
    let is = digits_from text s.0.0 s.0.1 s.1 in
    let same = parts_same (value s.0.0) n s.0.1 rest s.2 in
    is.2 ∙ ap₂ (λ a b. a ++ b) (sym (plain_is s.0.0 is.0 is.1) ∙ ap numeral same.0) same.1

digits_plain : (ds : List ℕ) → 0 < get_or ds 0 0 → is_plain (map (λ d. 48 + d) ds) ≡ true
digits_plain [] some = absurd (omega arith)
digits_plain (d ∷ []) some = refl
digits_plain (d ∷ e ∷ ds) some = above d some
  where
    above : (d : ℕ) → 0 < d → not (48 + d == 48) ≡ true
    above d some = grind (arith, nat_tests)

numeral_plain : (n : ℕ) → is_plain (numeral n) ≡ true
numeral_plain zero = refl
numeral_plain (suc n) = ap is_plain (digits_are n) ∙ digits_plain (digits_of 10 (suc n)) (first_digits_of 10 (suc n) (omega arith) (omega arith))

digits_read : (ds rest : List ℕ) → is_plain ds ≡ true → AllIn is_ascii_digit ds → Stops is_ascii_digit rest → digits_at (ds ++ rest) ≡ Some (ds, rest)
digits_read ds rest plain all stops =
    ap (λ k. cond (is_plain (take k (ds ++ rest))) (Some (take k (ds ++ rest), drop k (ds ++ rest))) None) (front_is is_ascii_digit ds rest all stops)
    ∙ ap₂ (λ a b. cond (is_plain a) (Some (a, b)) None) (take-append_seam ds rest) (drop-append_seam ds rest)
    ∙ cond-true (is_plain ds) _ _ plain

pub read_numeral : (n : ℕ) (rest : List ℕ) → Stops is_ascii_digit rest → numeral_at (numeral n ++ rest) ≡ Some (n, rest)
read_numeral n rest stops =
    then_next (digits_at (numeral n ++ rest)) (λ c. Some (value c.0, c.1)) (numeral n, rest)
    (digits_read (numeral n) rest (numeral_plain n) (numeral_digits n) stops)
    ∙ ap (λ m. Some (m, rest)) (numeral_same (value (numeral n)) n (plain_is (numeral n) (numeral_plain n) (numeral_digits n)))

below_none : (n : ℕ) (z : ℤ) → minus n ≡ Some z → 45 ∷ numeral n ≡ signed_numeral z
below_none zero z e = absurd cc
below_none (suc n) z e = (let same : negsuc n ≡ z = cc in ap signed_numeral same)

negative_from : (text : List ℕ) (z : ℤ) (rest : List ℕ) → negative_at text ≡ Some (z, rest) → 45 ∷ text ≡ signed_numeral z ++ rest
negative_from text z rest e =
    let s = both (numeral_at text) (λ c. minus c.0 >>= λ y. Some (y, c.1)) (z, rest) e in
    let t = both (minus s.0.0) (λ y. Some (y, s.0.1)) (z, rest) s.2 in
    let same = parts_same t.0 z s.0.1 rest t.2 in
    ap (λ x. 45 ∷ x) (numeral_from text s.0.0 s.0.1 s.1) ∙ ap₂ (λ a b. a ++ b) (below_none s.0.0 t.0 t.1 ∙ ap signed_numeral same.0) same.1

positive_from : (text : List ℕ) (z : ℤ) (rest : List ℕ) → positive_at text ≡ Some (z, rest) → text ≡ signed_numeral z ++ rest
positive_from text z rest e =
    let s = both (numeral_at text) (λ c. Some (pos c.0, c.1)) (z, rest) e in
    let same = parts_same (pos s.0.0) z s.0.1 rest s.2 in
    numeral_from text s.0.0 s.0.1 s.1 ∙ ap₂ (λ a b. a ++ b) (ap signed_numeral same.0) same.1

same_code : (b c : ℕ) → (b == c) ≡ true → b ≡ c
same_code b c e = grind (arith, nat_tests)

-- what is read as a number is its numeral, with what stands behind it
pub number_from : (text : List ℕ) (z : ℤ) (rest : List ℕ) → number_at text ≡ Some (z, rest) → text ≡ signed_numeral z ++ rest
number_from [] z rest e = absurd cc
number_from (b ∷ bs) z rest e =
    elim (cases_Bool (b == 45)) [
      | inl yes' ↦ ap (λ c. c ∷ bs) (same_code b 45 yes') ∙ negative_from bs z rest (sym (cond-true (b == 45) _ _ yes') ∙ e)
      | inr no' ↦ positive_from (b ∷ bs) z rest (sym (cond-false (b == 45) _ _ no') ∙ e)
    ]

no_minus : (d : ℕ) → is_ascii_digit d ≡ true → (d == 45) ≡ false
no_minus d is = grind (arith, nat_tests)

without_minus : (ds rest : List ℕ) → 0 < length ds → AllIn is_ascii_digit ds → number_at (ds ++ rest) ≡ positive_at (ds ++ rest)
without_minus [] rest some all = absurd (omega arith)
without_minus (d ∷ ds) rest some all = cond-false (d == 45) _ _ (no_minus d all.0)

-- the numeral of a number is read as the number
pub read_number : (z : ℤ) (rest : List ℕ) → Stops is_ascii_digit rest → number_at (signed_numeral z ++ rest) ≡ Some (z, rest)
read_number (pos n) rest stops =
    without_minus (numeral n) rest (numeral_some n) (numeral_digits n)
    ∙ then_next (numeral_at (numeral n ++ rest)) (λ c. Some (pos c.0, c.1)) (n, rest) (read_numeral n rest stops)
read_number (negsuc n) rest stops =
    then_next (numeral_at (numeral (suc n) ++ rest)) (λ c. minus c.0 >>= λ y. Some (y, c.1)) (suc n, rest) (read_numeral (suc n) rest stops)
