-- What stands at a plant's place.
use Rattle.std.proofs.Common.{◌≡◌, ℕ, ◌<◌, List, [], ap, length, subst}
use Rattle.std.specs.Option.{option_map_or}
use Rattle.sot_lists.specs.Places.{At}
use Rattle.sot_lang.specs.declared.tables.PlantInfo.{PlantInfo}
use Rattle.sot_lang.specs.Tables.{Tables}
use Rattle.sot_lang.specs.TableRules.{MeetsTableRules}
use Rattle.sot_lang.specs.Names.{plant_name}
use Rattle.sot_guard_lines.specs.Lines.{inputs_of}

module _ (p : Tables) (n : ℕ) (plant : PlantInfo) (at : At p.plants n plant) where
  pub plant_named : plant_name p n ≡ plant.name
  plant_named = ap (λ o. option_map_or (λ (x : PlantInfo). x.name) o []) at

  pub inputs_named : inputs_of p n ≡ plant.inputs.items
  inputs_named = ap (λ o. option_map_or (λ (x : PlantInfo). x.inputs.items) o []) at

  -- each input of a plant is there
  pub inputs_there : MeetsTableRules p → (ks : List ℕ) → ks ≡ plant.inputs.items → (i k : ℕ) → At ks i k → k < length p.scalars
  inputs_there rules ks is i k at_i = rules.typed.inputs_are n plant k at (i, subst (λ l. At l i k) is at_i)
