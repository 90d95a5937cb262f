-- Facts on due times that were worked out by hand.
use Rattle.std.proofs.Common.{◌≡◌, ℕ, ◌+◌, ◌-◌, ◌%◌, ◌≤◌, ◌<◌, true, false, inl, inr, ⊎_elim, arith, refl, subst}
use Rattle.std.proofs.lemmas.Bool.{cases_lt}
use Rattle.sot_calendar.specs.Due.{IsDue, IsNextDue, IsLastDue, IsDueIn, IsDueCount, IsStillDue, IsUntil}
use Rattle.sot_calendar.proofs.Clock.{next_after, last_now, due_gap}
use Rattle.sot_calendar.proofs.Counting.{count_from}

-- with period 4 and offset 3: due at 3 and at 7, and at no time before or between
due_at_the_offset : IsDue 4 3 3
due_at_the_offset = (omega arith, refl)

due_a_period_later : IsDue 4 3 7
due_a_period_later = (omega arith, refl)

not_due_between : IsDue 4 3 4 → ⊥
not_due_between d = let e : (4 - 3) % 4 ≡ 0 = d.1 in absurd (cc)

not_due_before_the_offset : IsDue 4 3 0 → ⊥
not_due_before_the_offset d = absurd (omega (arith, d.0))

-- a multiple of the period is not due where the offset is not 0
not_due_at_a_multiple : IsDue 4 3 8 → ⊥
not_due_at_a_multiple d = let e : (8 - 3) % 4 ≡ 0 = d.1 in absurd (cc)

-- the next due time from 4 on is 7
seven_is_next : IsNextDue 4 3 4 7
seven_is_next = next_after 4 3 4 (omega arith) (omega arith) (λ e. absurd (cc))

-- a time that is due is itself the next one
seven_is_next_at_seven : IsNextDue 4 3 7 7
seven_is_next_at_seven = record { later = omega arith; due = due_a_period_later; least = λ u from due. from }

-- but what has fired at a due time waits for a whole period
waits_for_a_period : IsDueIn 4 3 7 4
waits_for_a_period = record {
  later = omega arith;
  due = (omega arith, refl);
  least = λ e one due. let gap = due_gap 4 3 7 (7 + e) (omega arith) due_a_period_later due (omega arith) in omega (arith, gap);
}

-- period 2 and offset 1: two due times up to 3, both ends of the horizon counted
two_up_to_three : IsDueCount 2 1 3 2
two_up_to_three = (
  1,
  (
    1,
    (0, inr (λ d. absurd (omega (arith, d.0)), refl), inl ((omega arith, refl), refl)),
    inr (λ d. let e : (2 - 1) % 2 ≡ 0 = d.1 in absurd (cc), refl),
  ),
  inl ((omega arith, refl), refl),
)

-- 250 due times up to 1000, the last of them 999
count_up_to_1000 : IsDueCount 4 3 1000 250
count_up_to_1000 = count_from 4 3 1000 (omega arith) (omega arith)

-- one at time 0 with offset 0
one_at_zero : IsDueCount 4 0 0 1
one_at_zero = inl ((omega arith, refl), refl)

-- what is left to fire now and may not be late has to fire in this instant
no_tick_without_jitter : IsUntil 0 true 4 3 7 0
no_tick_without_jitter = (7, last_now 4 3 7 due_a_period_later, refl)

-- with jitter 1 it may wait for one tick
one_tick_with_jitter : IsUntil 1 true 4 3 7 1
one_tick_with_jitter = (7, last_now 4 3 7 due_a_period_later, refl)

-- and what has fired is back within the period and the jitter
five_ticks_after_firing : IsUntil 1 false 4 3 7 5
five_ticks_after_firing = (4, waits_for_a_period, refl)

-- at 8 it is late, but not too late, with jitter 1, and too late without
late_at_eight : IsLastDue 4 3 8 7
late_at_eight = record {
  past = omega arith;
  due = due_a_period_later;
  greatest = not_eight;
}
  where
    not_eight : (u : ℕ) → u ≤ 8 → IsDue 4 3 u → u ≤ 7
    not_eight u le due = ⊎_elim
        (λ (before : u < 8). omega arith)
        (λ (there : 8 ≤ u).
        let here : u ≡ 8 = omega arith in
        absurd (not_due_at_a_multiple (subst (λ (n : ℕ). IsDue 4 3 n) here due)))
        (cases_lt u 8)

still_due_at_eight : IsStillDue 1 4 3 8
still_due_at_eight = (7, late_at_eight, omega arith)
