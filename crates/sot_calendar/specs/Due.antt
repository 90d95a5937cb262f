-- When a node or a decision is due, and how long until it fires. Times are whole ticks from 0.
use Rattle.std.specs.Prelude.{◌≡◌, ℕ, zero, suc, ◌+◌, ◌-◌, ◌%◌, ◌≤◌, ◌⊎◌, Bool, true, false}

-- due at t: at the offset, and then once in each period
abbrev pub IsDue : ℕ → ℕ → ℕ → Type 0
IsDue period offset t = (offset ≤ t) × ((t - offset) % period ≡ 0)

-- the least due time that is at least t
pub record IsNextDue (period offset t d : ℕ) : Type 0 where
  pub later : t ≤ d
  pub due : IsDue period offset d
  pub least : (u : ℕ) → t ≤ u → IsDue period offset u → d ≤ u

-- the greatest due time that is at most t
pub record IsLastDue (period offset t d : ℕ) : Type 0 where
  pub past : d ≤ t
  pub due : IsDue period offset d
  pub greatest : (u : ℕ) → u ≤ t → IsDue period offset u → u ≤ d

-- the least number of ticks, at least 1, after which it is due
pub record IsDueIn (period offset t d : ℕ) : Type 0 where
  pub later : 1 ≤ d
  pub due : IsDue period offset (t + d)
  pub least : (e : ℕ) → 1 ≤ e → IsDue period offset (t + e) → d ≤ e

-- time t counts where it is due then: the number goes from m to n
abbrev pub Counts : ℕ → ℕ → ℕ → ℕ → ℕ → Type 0
Counts period offset t m n =
    (IsDue period offset t × (n ≡ suc m)) ⊎ ((IsDue period offset t → ⊥) × (n ≡ m))

-- the number of due times from 0 up to and including the horizon
abbrev pub IsDueCount : ℕ → ℕ → ℕ → ℕ → Type 0
IsDueCount period offset zero n = Counts period offset zero zero n
IsDueCount period offset (suc h) n =
    (m : ℕ) × IsDueCount period offset h m × Counts period offset (suc h) m n

-- what is left to fire at t was due last no longer ago than the jitter: its deadline is t or later
abbrev pub IsStillDue : ℕ → ℕ → ℕ → ℕ → Type 0
IsStillDue jitter period offset t = (d : ℕ) × IsLastDue period offset t d × (t ≤ d + jitter)

-- at most r ticks until it fires: up to its deadline where it is left to fire (true), and else up
-- to the deadline of its next due time; a deadline is a due time and the jitter
abbrev pub IsUntil : ℕ → Bool → ℕ → ℕ → ℕ → ℕ → Type 0
IsUntil jitter true period offset t r =
    (d : ℕ) × IsLastDue period offset t d × (t + r ≡ d + jitter)
IsUntil jitter false period offset t r = (d : ℕ) × IsDueIn period offset t d × (r ≡ d + jitter)

-- due at t, or at most so many ticks before
abbrev pub IsDueWithin : ℕ → ℕ → ℕ → ℕ → Type 0
IsDueWithin jitter period offset t = (d : ℕ) × IsDue period offset d × (d ≤ t) × (t ≤ d + jitter)

-- t is the deadline of the last due time: that time and the jitter
abbrev pub IsDeadline : ℕ → ℕ → ℕ → ℕ → Type 0
IsDeadline jitter period offset t = (d : ℕ) × IsLastDue period offset t d × (d + jitter ≡ t)
