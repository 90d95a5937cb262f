-- What contracts see of an interval: its two ends.
use Rattle.std.specs.Prelude.{ℤ, pos, ◌≤ℤ◌, List, [], ◌∷◌}

-- the whole numbers from lo to hi, both of them included
pub record Side : Type 0 where
  pub lo : ℤ
  pub hi : ℤ

-- a number is in the interval
abbrev pub IsIn : Side → ℤ → Type 0
IsIn r z = (r.lo ≤ℤ z) × (z ≤ℤ r.hi)

-- the low end of each interval is at most its high end
abbrev pub AreOrdered : List Side → Type 0
AreOrdered [] = Unit {0}
AreOrdered (r ∷ rs) = (r.lo ≤ℤ r.hi) × AreOrdered rs

-- the interval of 0 alone
abbrev pub nought : Side
nought = record { lo = pos 0; hi = pos 0 }
