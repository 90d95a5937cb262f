-- Between the crate's own functions: a set that places leave.
use Rattle.std.specs.Prelude.{ℕ, suc, ◌+◌, ◌*◌, ◌≤◌, Bool, true, false, length, List, [], ◌∷◌}
use Rattle.sot_recover.specs.Sets.{IsSet, with_places, KeepIn}

-- how many flags are set
abbrev pub count : List Bool → ℕ
count [] = 0
count (true ∷ xs) = suc (count xs)
count (false ∷ xs) = count xs

-- what falls while places leave a set and are taken
abbrev pub weight : List Bool → List ℕ → ℕ
weight set leaving = 2 * count set + length leaving

-- places have left the set, which wait to be taken; what keeps to itself has stayed
pub record IsThinned (lands : List Bool → ℕ → Type 0) (old : List Bool) (waiting : List ℕ)
    (set : List Bool) (leaving : List ℕ) : Type 0 where
  pub fewer : (k : ℕ) → IsSet set k → IsSet old k
  pub either : (k : ℕ) → IsSet (with_places old waiting) k → IsSet (with_places set leaving) k
  pub kept : (all : List Bool) → KeepIn lands all old → KeepIn lands all set
  pub lighter : weight set leaving ≤ weight old waiting
