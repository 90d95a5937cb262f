-- The room of a list that numbers are put into.
use Rattle.std.specs.Prelude.{ℕ, ◌+◌, ◌<◌, ◌≤◌, ℤ, vec_len, vec_capacity}
use Rattle.std.specs.Global.{Vec}

-- so many numbers more stand in a list at most, and its room does not shrink
pub record TakesRoom (more : ℕ) (old new : Vec ℤ) : Type 0 where
  pub len : vec_len new ≤ vec_len old + more
  pub capacity : vec_capacity old ≤ vec_capacity new

-- a list has no room for so many numbers more
abbrev pub IsFull : ℕ → Vec ℤ → Type 0
IsFull more list = vec_capacity list < vec_len list + more
