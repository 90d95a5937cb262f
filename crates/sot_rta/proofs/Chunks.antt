-- The first refusal of chunks that lie one behind another is the first refusal of all.
use Rattle.std.proofs.Common.{◌≡◌, ℕ, zero, suc, ◌+◌, ◌-◌, ◌*◌, ◌<◌, ◌≤◌, min, List, [], ◌∷◌, Ok, Err, ap, ◌∙◌, subst, arith, ⊎_elim}
use Rattle.std.specs.Prelude.{Result}
use Rattle.std.specs.List.{AllZip, range_with_len, find}
use Rattle.std.specs.Int.{div_ceil}
use Rattle.std.specs.Option.{unwrap_or}
use Rattle.std.specs.Result.{is_err}
use Rattle.std.proofs.lemmas.Bool.{cases_lt}
use Rattle.std.proofs.Math.Nat.{suc-mul, mul-le-mul_right}
use Rattle.std.proofs.lemmas.Grind.{div_ceil_times}
use Rattle.rayon.specs.Numbers.{nat_range}
use Rattle.sot_rta.specs.declared.refusal.Refusal.{Refusal}
use Rattle.sot_rta.specs.Many.{Answering, AllOk, AnswersAll}

-- a chunk ends where the next one begins
ends : (size k : ℕ) → (k + 1) * size ≡ k * size + size
ends size k =
    let after : k + 1 ≡ suc k = omega arith in
    ap (λ n. n * size) after ∙ suc-mul k size

-- a later chunk begins no earlier
grows : (size count k : ℕ) → min (k * size) count ≤ min ((k + 1) * size) count
grows size count k = omega (arith, ends size k)

-- each chunk has a first number
pub begins : (size count k : ℕ) → 0 < size → k < div_ceil count size → k * size < count
begins size count k some lt =
    let fit = div_ceil_times count size some in
    let whole : (k + 1) * size ≤ div_ceil count size * size = mul-le-mul_right size (omega (arith, lt)) in
    omega (arith, ends size k, whole, fit.1)

-- the last one ends behind the last number
covers : (m n size count : ℕ) → m ≡ n → count ≤ n * size → min (m * size) count ≡ count
covers m n size count same le =
    let product : m * size ≡ n * size = ap (λ x. x * size) same in
    omega (arith, product, le)

module _ (Answer : Answering) where
  -- two ranges side by side
  all_ok : (a b c : ℕ) → AllOk Answer a b → AllOk Answer b c → AllOk Answer a c
  all_ok a b c first rest i lo hi = ⊎_elim (λ lt. first i lo lt) (λ ge. rest i ge hi) (cases_lt i b)

  -- what comes behind numbers that are all answered Ok
  behind_ok : (a b c : ℕ) → a ≤ b → AllOk Answer a b → (r : Result (Unit {0}) Refusal) → AnswersAll Answer b c r → AnswersAll Answer a c r
  behind_ok a b c le first (Ok u) h = all_ok a b c first h
  behind_ok a b c le first (Err r) h = (h.0, omega (arith, le, h.1), h.2, h.3, all_ok a b h.0 first h.4)

  module _ (bound : ℕ → ℕ) (rises : (k : ℕ) → bound k ≤ bound (k + 1)) where
    -- so do all later ones
    further : (a n : ℕ) → bound a ≤ bound (a + n)
    further a zero =
        let same : bound a ≡ bound (a + 0) = ap bound (omega arith) in
        omega (arith, same)
    further a (suc n) =
        let next = further (a + 1) n in
        let same : bound (a + 1 + n) ≡ bound (a + suc n) = ap bound (omega arith) in
        omega (arith, rises a, next, same)

    -- by the chunks from a on
    first_of_chunks : (a n : ℕ) (xs : List (Result (Unit {0}) Refusal)) → AllZip (λ k x. AnswersAll Answer (bound k) (bound (k + 1)) x) (range_with_len a n) xs
        → AnswersAll Answer (bound a) (bound (a + n)) (unwrap_or (find is_err xs) (Ok tt))
    first_of_chunks a zero [] h = λ i lo hi.
        let same : bound (a + 0) ≡ bound a = ap bound (omega arith) in
        absurd (omega (arith, same, lo, hi))
    first_of_chunks a zero (x ∷ xs) h = absurd h
    first_of_chunks a (suc n) [] h = absurd h
    first_of_chunks a (suc n) (Ok u ∷ xs) h =
        let found = unwrap_or (find is_err xs) (Ok tt) in
        let same : bound (a + 1 + n) ≡ bound (a + suc n) = ap bound (omega arith) in
        behind_ok (bound a) (bound (a + 1)) (bound (a + suc n)) (rises a) h.0 found
        (subst (λ to. AnswersAll Answer (bound (a + 1)) to found) same (first_of_chunks (a + 1) n xs h.1))
    first_of_chunks a (suc n) (Err r ∷ xs) h =
        let same : bound (a + 1 + n) ≡ bound (a + suc n) = ap bound (omega arith) in
        (h.0.0, h.0.1, omega (arith, same, further (a + 1) n, h.0.2), h.0.3, h.0.4)

  -- the answer of the first chunk that has a refusal, or Ok where none has one, is the answer of all numbers
  pub first_of_all : (size count : ℕ) → 0 < size → (xs : List (Result (Unit {0}) Refusal))
      → AllZip (λ k x. AnswersAll Answer (min (k * size) count) (min ((k + 1) * size) count) x) (nat_range 0 (div_ceil count size)) xs
      → AnswersAll Answer 0 count (unwrap_or (find is_err xs) (Ok tt))
  first_of_all size count some xs h =
      let n = div_ceil count size in
      let whole : count ≤ n * size = (div_ceil_times count size some).0 in
      let from : min (0 * size) count ≡ 0 = omega arith in
      let to : min ((0 + (n - 0)) * size) count ≡ count = covers (0 + (n - 0)) n size count (omega arith) whole in
      let found = unwrap_or (find is_err xs) (Ok tt) in
      subst (λ a. AnswersAll Answer a count found) from (subst (λ b. AnswersAll Answer (min (0 * size) count) b found) to
      (first_of_chunks (λ k. min (k * size) count) (grows size count) 0 (n - 0) xs h))
