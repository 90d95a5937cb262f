-- Due times and deadlines.
use Rattle.std.proofs.Common.{◌≡◌, ℕ, ◌-◌, ◌<◌, ◌≤◌, ⊎_elim, subst, arith}
use Rattle.std.proofs.lemmas.Bool.{cases_lt}
use Rattle.sot_calendar.specs.Due.{IsDue, IsLastDue, IsDeadline}
use Rattle.sot_calendar.proofs.Clock.{due_gap}

-- a due time that is the jitter ago is the last one, since the jitter is below the period
pub last_before : (j p o t : ℕ) → j < p → o < p → j ≤ t → IsDue p o (t - j) → IsLastDue p o t (t - j)
last_before j p o t short begins past due = record {
  past = omega arith;
  due = due;
  greatest = λ u le is. ⊎_elim
      (λ later. let gap = due_gap p o (t - j) u begins due is later in absurd (omega (arith, gap, le, short, past)))
      (λ no'. omega (arith, no'))
      (cases_lt (t - j) u);
}

-- the deadline is now exactly where the jitter ago something was due
pub deadline_is : (j p o t : ℕ) → j < p → o < p → j ≤ t → IsDue p o (t - j) → IsDeadline j p o t
deadline_is j p o t short begins past due = (t - j, last_before j p o t short begins past due, omega (arith, past))

pub deadline_was : (j p o t : ℕ) → IsDeadline j p o t → IsDue p o (t - j)
deadline_was j p o t h = (let e : h.0 ≡ t - j = omega (arith, h.2) in subst (IsDue p o) e h.1.due)
