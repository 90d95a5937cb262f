-- The clock between two firings.
use Rattle.std.proofs.Common.{◌≡◌, ◌≢◌, ℕ, zero, suc, ◌+◌, ◌-◌, ◌<◌, ◌≤◌, Bool, true, false, ◌⊎◌, ◌↔◌, inl, inr, ⊎_elim, refl, sym, ap, ◌∙◌, subst, arith}
use Rattle.std.specs.Prelude.{◌%◌}
use Rattle.std.proofs.lemmas.Bool.{false≢true}
use Rattle.std.proofs.Math.Nat.{add-mod_right}
use Rattle.sot_calendar.specs.Due.{IsDue, IsLastDue}
use Rattle.sot_calendar.proofs.Clock.{due_gap, last_now}

-- d was the due time of the last firing: it is not yet due again, or it is left for the next due time, and not late
abbrev pub IsBetween : ℕ → ℕ → ℕ → ℕ → ℕ → Bool → Type 0
IsBetween jitter period offset d t left =
    ((left ≡ false) × IsLastDue period offset t d) ⊎ ((left ≡ true) × IsLastDue period offset t (d + period) × (t ≤ d + period + jitter))

-- so it is after a firing, after each tick, and at the next firing the ticks between are a period, less or more by the jitter at most
abbrev pub ClockBetween : Type 0
ClockBetween =
    (j p o d t : ℕ) → o < p → j < p →
    (IsLastDue p o t d → IsBetween j p o d t false)
    × ((left after : Bool) → ((e : ℕ) → left ≡ true → IsLastDue p o t e → e + j ≢ t) → ((after ≡ true) ↔ ((left ≡ true) ⊎ IsDue p o (suc t)))
    → IsBetween j p o d t left → IsBetween j p o d (suc t) after)
    × ((first ticks : ℕ) → IsLastDue p o first d → first ≤ d + j → t ≡ first + ticks → IsBetween j p o d t true → (p ≤ ticks + j) × (ticks ≤ p + j))
    × ((first ticks : ℕ) (left : Bool) → IsLastDue p o first d → first ≤ d + j → t ≡ first + ticks → IsBetween j p o d t left → ticks ≤ p + j)

-- a period after a due time is one
next_period : (p o d : ℕ) → IsDue p o d → IsDue p o (d + p)
next_period p o d due = (omega (arith, due.0), (let e : d + p - o ≡ (d - o) + p = omega (arith, due.0) in ap (λ n. n % p) e ∙ add-mod_right (d - o) p ∙ due.1))

-- a last due time is less than a period ago
last_near : (p o t d : ℕ) → o < p → IsLastDue p o t d → t < d + p
last_near p o t d lt last = not_far (later t (d + p))
  where
    later : (a b : ℕ) → (a < b) ⊎ (b ≤ a)
    later zero zero = inr (omega arith)
    later zero (suc b) = inl (omega arith)
    later (suc a) zero = inr (omega arith)
    later (suc a) (suc b) = ⊎_elim (λ l. inl (omega (arith, l))) (λ l. inr (omega (arith, l))) (later a b)

    not_far : (t < d + p) ⊎ (d + p ≤ t) → t < d + p
    not_far (inl near) = near
    not_far (inr far) = (let h = last.greatest (d + p) far (next_period p o d last.due) in absurd (omega (arith, h, lt)))

-- where it is not due at the next tick, the last due time stays
last_stays : (p o t d : ℕ) → IsLastDue p o t d → (IsDue p o (suc t) → ⊥) → IsLastDue p o (suc t) d
last_stays p o t d last none' = record {
  past = omega (arith, last.past);
  due = last.due;
  greatest = λ u le due. cases u le due;
}
  where
    cases : (u : ℕ) → u ≤ suc t → IsDue p o u → u ≤ d
    cases u le due = by (near u (suc t) le)
      where
        near : (a b : ℕ) → a ≤ b → (a ≡ b) ⊎ (suc a ≤ b)
        near zero zero h = inl refl
        near zero (suc b) h = inr (omega arith)
        near (suc a) zero h = absurd (omega (arith, h))
        near (suc a) (suc b) h = ⊎_elim (λ e. inl (ap suc e)) (λ l. inr (omega (arith, l))) (near a b (omega (arith, h)))

        by : (u ≡ suc t) ⊎ (suc u ≤ suc t) → u ≤ d
        by (inl e) = absurd (none' (subst (IsDue p o) e due))
        by (inr l) = last.greatest u (omega (arith, l)) due

tick : (j p o d t : ℕ) → o < p → j < p → (left after : Bool) → ((e : ℕ) → left ≡ true → IsLastDue p o t e → e + j ≢ t)
    → ((after ≡ true) ↔ ((left ≡ true) ⊎ IsDue p o (suc t))) → IsBetween j p o d t left → IsBetween j p o d (suc t) after
tick j p o d t lt short true true may sets (inl between) = absurd (false≢true (sym between.0))
tick j p o d t lt short true false may sets between = absurd (false≢true (sets.1 (inl refl)))
tick j p o d t lt short true true may sets (inr between) =
    let late = may (d + p) refl between.1 in
    inr (
      refl,
      last_stays p o t (d + p) between.1 (λ due. (let gap = due_gap p o (d + p) (suc t) lt between.1.due due (omega (arith, between.1.past)) in
          absurd (omega (arith, gap, between.2, late, short)))),
      omega (arith, between.2, late),
    )
tick j p o d t lt short false after may sets (inr between) = absurd (false≢true between.0)
tick j p o d t lt short false true may sets (inl between) =
    let due : IsDue p o (suc t) = ⊎_elim (λ e. absurd (false≢true e)) (λ h. h) (sets.0 refl) in
    let gap = due_gap p o d (suc t) lt between.1.due due (omega (arith, between.1.past)) in
    let near = last_near p o t d lt between.1 in
    let e : suc t ≡ d + p = omega (arith, gap, near) in
    inr (refl, subst (IsLastDue p o (suc t)) e (last_now p o (suc t) due), omega (arith, e))
tick j p o d t lt short false false may sets (inl between) = inl (refl, last_stays p o t d between.1 (λ due. false≢true (sets.1 (inr due))))

pub clock : ClockBetween
clock j p o d t lt short = (
  λ last. inl (refl, last),
  tick j p o d t lt short,
  λ first ticks last soon e between. apart first ticks last soon e between,
  λ first ticks left last soon e between. few first ticks left last soon e between,
)
  where
    apart : (first ticks : ℕ) → IsLastDue p o first d → first ≤ d + j → t ≡ first + ticks → IsBetween j p o d t true → (p ≤ ticks + j) × (ticks ≤ p + j)
    apart first ticks last soon e (inl between) = absurd (false≢true (sym between.0))
    apart first ticks last soon e (inr between) = (omega (arith, soon, e, between.1.past), omega (arith, last.past, e, between.2))

    few : (first ticks : ℕ) (left : Bool) → IsLastDue p o first d → first ≤ d + j → t ≡ first + ticks → IsBetween j p o d t left → ticks ≤ p + j
    few first ticks left last soon e (inl between) = (let near = last_near p o t d lt between.1 in omega (arith, last.past, e, near))
    few first ticks left last soon e (inr between) = omega (arith, last.past, e, between.2)
