-- The plant of a module, and how many state variables it has.
use Rattle.std.proofs.Common.{ℕ, ◌≤◌, length}
use Rattle.sot_lists.specs.Places.{At}
use Rattle.sot_lang.specs.declared.tables.PlantInfo.{PlantInfo}
use Rattle.sot_lang.specs.Tables.{Tables}
use Rattle.sot_lang.specs.TableRules.{MeetsTableRules}

pub some_states : (p : Tables) → MeetsTableRules p → (k : ℕ) (plant : PlantInfo) → At p.plants k plant → 1 ≤ length plant.states.items
some_states p rules k plant at = (rules.plants k plant at).some_state

pub few_states : (p : Tables) → MeetsTableRules p → (k : ℕ) (plant : PlantInfo) → At p.plants k plant → length plant.states.items ≤ 4
few_states p rules k plant at = (rules.plants k plant at).states
