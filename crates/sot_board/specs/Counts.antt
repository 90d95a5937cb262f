-- How many state variables plants have.
use Rattle.std.specs.Prelude.{ℕ, ◌+◌, List, [], ◌∷◌, length}
use Rattle.sot_lang.specs.declared.tables.PlantInfo.{PlantInfo}

abbrev pub state_count : List PlantInfo → ℕ
state_count [] = 0
state_count (k ∷ ks) = length k.states.items + state_count ks
