-- The number of due times up to a horizon.
use Rattle.std.proofs.Common.{◌≡◌, ℕ, zero, suc, ◌+◌, ◌-◌, ◌*◌, ◌/◌, ◌%◌, ◌<◌, ◌≤◌, inl, inr, ⊎_elim, refl, sym, ap, ◌∙◌, arith, add-one}
use Rattle.std.proofs.lemmas.Bool.{cases_lt}
use Rattle.std.proofs.lemmas.Nat.{div-mul-add}
use Rattle.std.proofs.Math.Nat.{mod-lt, div-add-mod, mul_comm, zero-div, zero-mod}
use Rattle.sot_calendar.specs.Due.{Counts, IsDueCount}
use Rattle.sot_calendar.proofs.Clock.{rest_of, at_next}

-- inside a period the quotient stays
quotient_stays : (p x : ℕ) → x % p + 1 < p → suc x / p ≡ x / p
quotient_stays p x inside =
    let split : suc x ≡ x / p * p + (x % p + 1) = omega (arith, div-add-mod x p, mul_comm p (x / p)) in
    ap (λ n. n / p) split ∙ div-mul-add (x / p) p (x % p + 1) inside

-- and at its end it rises by one
quotient_rises : (p x : ℕ) → 0 < p → x % p + 1 ≡ p → suc x / p ≡ x / p + 1
quotient_rises p x pos end =
    let split : suc x ≡ (x / p + 1) * p + 0 = omega (arith, div-add-mod x p, mul_comm p (x / p)) in
    ap (λ n. n / p) split ∙ div-mul-add (x / p + 1) p 0 pos

-- before the offset there is no due time
pub none_before : (p o h : ℕ) → h < o → IsDueCount p o h 0
none_before p o zero before = inr (λ d. omega (arith, d.0), refl)
none_before p o (suc h) before = (0, none_before p o h (omega arith), inr (λ d. omega (arith, d.0), refl))

-- and from then on one for the offset, and one for each whole period
pub count_from : (p o h : ℕ) → o < p → o ≤ h → IsDueCount p o h ((h - o) / p + 1)
count_from p o zero lt late =
    let first : 0 - o ≡ 0 = omega arith in
    inl ((late, ap (λ n. n % p) first ∙ zero-mod p), ap (λ n. n / p + 1) first ∙ ap (λ n. n + 1) (zero-div p))
count_from p o (suc h) lt late = ⊎_elim first (λ behind. more behind (count_from p o h lt behind)) (cases_lt h o)
  where
    first : h < o → IsDueCount p o (suc h) ((suc h - o) / p + 1)
    first before =
        let here : suc h - o ≡ 0 = omega arith in (
          0,
          none_before p o h before,
          inl ((late, ap (λ n. n % p) here ∙ zero-mod p), ap (λ n. n / p + 1) here ∙ ap (λ n. n + 1) (zero-div p)),
        )

    more : o ≤ h → IsDueCount p o h ((h - o) / p + 1) → IsDueCount p o (suc h) ((suc h - o) / p + 1)
    more behind before =
        let pos : 0 < p = omega arith in
        let low : (h - o) % p < p = mod-lt (h - o) pos in
        let next : suc h - o ≡ suc (h - o) = omega arith in (
          (h - o) / p + 1,
          before,
          ⊎_elim
              (λ (inside : (h - o) % p + 1 < p).
              let rest : suc (h - o) % p ≡ (h - o) % p + 1 = ap (λ n. n % p) (sym (add-one (h - o))) ∙ rest_of p (h - o) 1 pos inside in
              inr (
                λ due. let none : (suc h - o) % p ≡ 0 = due.1 in absurd (omega (arith, sym (ap (λ n. n % p) next) ∙ none, rest)),
                ap (λ n. n / p + 1) next ∙ ap (λ n. n + 1) (quotient_stays p (h - o) inside),
              ))
              (λ (end : p ≤ (h - o) % p + 1).
              let whole : (h - o) % p + 1 ≡ p = omega arith in
              let turn : suc (h - o) ≡ (h - o) + (p - (h - o) % p) = omega arith in
              inl (
                (late, ap (λ n. n % p) (next ∙ turn) ∙ at_next p (h - o) pos),
                ap (λ n. n / p + 1) next ∙ ap (λ n. n + 1) (quotient_rises p (h - o) pos whole) ∙ add-one ((h - o) / p + 1),
              ))
              (cases_lt ((h - o) % p + 1) p),
        )

-- a time counts in one way
counts_same : (p o t k l m n : ℕ) → k ≡ l → Counts p o t k m → Counts p o t l n → m ≡ n
counts_same p o t k l m n e a b = elim a [
  | inl one ↦ elim b [
    | inl two ↦ one.1 ∙ ap (λ x. suc x) e ∙ sym two.1
    | inr two ↦ absurd (two.0 one.0)
  ]
  | inr one ↦ elim b [
    | inl two ↦ absurd (one.0 two.0)
    | inr two ↦ one.1 ∙ e ∙ sym two.1
  ]
]

-- there is one such number
pub count_same : (p o h m n : ℕ) → IsDueCount p o h m → IsDueCount p o h n → m ≡ n
count_same p o zero m n a b = counts_same p o zero zero zero m n refl a b
count_same p o (suc h) m n a b = counts_same p o (suc h) a.0 b.0 m n (count_same p o h a.0 b.0 a.1 b.1) a.2 b.2
