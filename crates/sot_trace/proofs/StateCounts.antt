-- How many state variables the plants of a program have, each at most four.
use Rattle.std.proofs.Common.{ℕ, suc, ◌+◌, ◌*◌, ◌≤◌, List, [], ◌∷◌, length, refl, arith}
use Rattle.sot_lists.specs.Places.{At}
use Rattle.sot_lang.specs.declared.tables.PlantInfo.{PlantInfo}
use Rattle.sot_lang.specs.Tables.{Tables}
use Rattle.sot_lang.specs.TableRules.{MeetsTableRules}
use Rattle.sot_board.specs.Counts.{state_count}

few_each : (plants : List PlantInfo) → ((k : ℕ) (plant : PlantInfo) → At plants k plant → length plant.states.items ≤ 4)
    → state_count plants ≤ 4 * length plants
few_each [] each = omega arith
few_each (k ∷ ks) each = (let rest = few_each ks (λ i plant at. each (suc i) plant at) in let here = each 0 k refl in omega (arith, rest, here))

pub few_states : (p : Tables) → MeetsTableRules p → state_count p.plants ≤ 4 * length p.plants
few_states p rules = few_each p.plants (λ k plant at. (rules.plants k plant at).states)
