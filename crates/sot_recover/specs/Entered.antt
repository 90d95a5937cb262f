-- Between the crate's own functions: places that enter a set.
use Rattle.std.specs.Prelude.{ℕ, ◌≡◌, ◌<◌, Bool, length, List, slice_index_or}
use Rattle.sot_lists.specs.Places.{Has}
use Rattle.sot_recover.specs.Sets.{IsSet}

-- place i lands in the set from outside
abbrev pub MayEnter : (List Bool → ℕ → Type 0) → List Bool → ℕ → Type 0
MayEnter lands set i = (i < length set) × (IsSet set i → ⊥) × lands set i

-- the rank of a place, where those that enter get this rank
abbrev pub RanksAfter : List ℕ → List ℕ → List ℕ → ℕ → ℕ → Type 0
RanksAfter fresh before after rank i =
    (Has fresh i → slice_index_or after i 0 ≡ rank)
    × ((Has fresh i → ⊥) → slice_index_or after i 0 ≡ slice_index_or before i 0)
