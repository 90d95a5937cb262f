-- Counts of faults, and when a call may answer one.
use Rattle.std.specs.Prelude.{◌≡◌, ℕ, ◌+◌, ◌-◌, ◌^◌, ◌<◌, ◌≤◌, ◌⊎◌, min, Result, OnOk, OnErr}

-- one more, up to the end of 64 bits, where a count stands still
abbrev pub counted : ℕ → ℕ
counted n = min (n + 1) (2 ^ 64 - 1)

-- a count of faults is greater than before, or stands at its end
abbrev pub Rose : ℕ → ℕ → Type 0
Rose before now = (before < now) ⊎ (now ≡ 2 ^ 64 - 1)

-- the count fits 64 bits and has not fallen; an error comes only where it rose, and a call that
-- went well leaves it
pub record HasCause {T E : Type 0} (before now : ℕ) (result : Result T E) : Type 0 where
  pub fits : now < 2 ^ 64
  pub later : before ≤ now
  pub failed : OnErr result (Rose before now)
  pub well : OnOk result (now ≡ before)
