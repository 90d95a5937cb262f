-- Places of a worked list.
use Rattle.std.specs.Prelude.{ℕ, List, [], ◌∷◌}
use Rattle.sot_lists.specs.Places.{At, Has}

-- 7, 8, 7
abbrev pub sevens : List ℕ
sevens = 7 ∷ 8 ∷ 7 ∷ []

-- 7 stands at the places 0 and 2, 8 at place 1, and nothing at place 3
abbrev pub PlacesOfSevens : Type 0
PlacesOfSevens = At sevens 0 7 × At sevens 1 8 × At sevens 2 7 × ((x : ℕ) → At sevens 3 x → ⊥)

-- 8 is in the list, and 9 is not
abbrev pub MembersOfSevens : Type 0
MembersOfSevens = Has sevens 8 × (Has sevens 9 → ⊥)
