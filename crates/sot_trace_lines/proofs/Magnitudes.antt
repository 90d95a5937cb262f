-- Numbers that are counted up to a limit while their digits are read.
use Rattle.std.proofs.Common.{◌≡◌, ℕ, zero, suc, ◌+◌, ◌-◌, ◌*◌, ◌^◌, ◌<◌, ◌≤◌, min, true, false, List, [], ◌∷◌, Option, Some, None, nat_lt, inl, inr, refl, sym}
use Rattle.std.proofs.Common.{ap, ◌∙◌, arith}
use Rattle.std.specs.Prelude.{ℤ, pos, negsuc}
use Rattle.std.proofs.lemmas.Bool.{cases_Bool, cond-false}
use Rattle.std.proofs.lemmas.Bool.Decides.{nat_tests}
use Rattle.sot_text.specs.Lexeme.{with_digits, value}
use Rattle.sot_trace_lines.specs.Pieces.{◌>>=◌, numeral_at, negative_at, minus}
use Rattle.sot_trace_lines.specs.Kept.{bounded, kept_number}

-- numbers that are the same up to the limit stay so
pub same_counted : (n m : ℕ) (ds : List ℕ) → min n (2 ^ 64 - 1) ≡ min m (2 ^ 64 - 1) → min (with_digits n ds) (2 ^ 64 - 1) ≡ min (with_digits m ds) (2 ^ 64 - 1)
same_counted n m [] same = same
same_counted n m (d ∷ ds) same = same_counted (10 * n + (d - 48)) (10 * m + (d - 48)) ds (omega arith)

below_both : (n m : ℕ) → nat_lt n (2 ^ 63) ≡ true → (m < 2 ^ 63 → m ≡ n) → (n < 2 ^ 63 → m < 2 ^ 63) → m ≡ n
below_both n m test same low = (let lt : n < 2 ^ 63 = grind (arith, nat_tests) in same (low lt))

past_both : (n m : ℕ) → nat_lt n (2 ^ 63) ≡ false → (2 ^ 63 ≤ n → 2 ^ 63 ≤ m) → nat_lt m (2 ^ 63) ≡ false
past_both n m test high = (let le : 2 ^ 63 ≤ n = grind (arith, nat_tests) in let more : 2 ^ 63 ≤ m = high le in grind (arith, nat_tests))

-- a count up to 2^64 - 1 is enough to tell whether the number has 64 bits
pub positive_counted : (n m : ℕ) → m ≡ min n (2 ^ 64 - 1) → bounded (pos m) ≡ bounded (pos n)
positive_counted n m is =
    elim (cases_Bool (nat_lt n (2 ^ 63))) [
      | inl low ↦ ap (λ k. bounded (pos k)) (below_both n m low (λ lt. omega arith) (λ lt. omega arith))
      | inr high ↦ cond-false (nat_lt m (2 ^ 63)) _ _ (past_both n m high (λ le. omega arith)) ∙ sym (cond-false (nat_lt n (2 ^ 63)) _ _ high)
    ]

negative_counted : (n m : ℕ) → suc m ≡ min (suc n) (2 ^ 64 - 1) → bounded (negsuc m) ≡ bounded (negsuc n)
negative_counted n m is =
    elim (cases_Bool (nat_lt n (2 ^ 63))) [
      | inl low ↦ ap (λ k. bounded (negsuc k)) (below_both n m low (λ lt. omega arith) (λ lt. omega arith))
      | inr high ↦ cond-false (nat_lt m (2 ^ 63)) _ _ (past_both n m high (λ le. omega arith)) ∙ sym (cond-false (nat_lt n (2 ^ 63)) _ _ high)
    ]

-- the number below 0, by a count of its magnitude
pub below_is : (n m : ℕ) (r : Option ℤ) (rest : List ℕ) → m ≡ min n (2 ^ 64 - 1) → (m ≡ 0 → ⊥) → ((z : ℤ) → minus m ≡ Some z → r ≡ bounded z)
    → kept_number (minus n >>= λ z. Some (z, rest)) ≡ Some (r, rest)
below_is zero m r rest is some of_m = absurd (some (omega arith))
below_is (suc n) zero r rest is some of_m = absurd (some refl)
below_is (suc n) (suc m) r rest is some of_m = ap (λ o. Some (o, rest)) (sym (of_m (negsuc m) refl ∙ negative_counted n m is))

-- a number below 0, from its digits
abbrev pub numeral_of : Option (List ℕ × List ℕ) → Option (ℕ × List ℕ)
numeral_of o = o >>= λ c. Some (value c.0, c.1)

abbrev pub negative_of : Option (List ℕ × List ℕ) → Option (ℤ × List ℕ)
negative_of o = numeral_of o >>= λ c. minus c.0 >>= λ z. Some (z, c.1)

-- what stands behind a minus is no number where it is 0
pub none_below : (text rest : List ℕ) (n : ℕ) → n ≡ 0 → numeral_at text ≡ Some (n, rest) → None ≡ kept_number (negative_at text)
none_below text rest n none read = sym (ap (λ o. kept_number (o >>= λ c. minus c.0 >>= λ z. Some (z, c.1))) (read ∙ ap (λ k. Some (k, rest)) none))
