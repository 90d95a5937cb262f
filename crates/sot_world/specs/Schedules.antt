-- When what a world has to leave is due next.
use Rattle.std.specs.Prelude.{ℕ, ◌≡◌, ◌+◌, ◌==◌, if◌then◌else◌, List, length}
use Rattle.sot_lists.specs.Places.{At}
use Rattle.sot_calendar.specs.Due.{IsNextDue}
use Rattle.sot_world.specs.declared.schedule.Schedule.{Schedule}

-- for the first time after 0
abbrev pub first : ℕ → ℕ → Schedule
first period offset = record { next = (if offset == 0 then period else offset); period = period }

-- what is due at t is due next a period later
abbrev pub after : ℕ → Schedule → Schedule
after t s = record { next = (if s.next == t then t + s.period else s.next); period = s.period }

-- next at the least due time that is at least t
pub record IsScheduled (period offset t : ℕ) (s : Schedule) : Type 0 where
  pub every : s.period ≡ period
  pub next : IsNextDue period offset t s.next

-- of each element of a list, by its period and its offset
pub record AreScheduled {A : Type 0} (period offset : A → ℕ) (of : List A) (t : ℕ)
    (schedules : List Schedule) : Type 0 where
  pub each : length schedules ≡ length of
  pub are : (k : ℕ) (x : A) → At of k x
      → (s : Schedule) × At schedules k s × IsScheduled (period x) (offset x) t s
