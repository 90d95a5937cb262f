-- A module's plant has a start.
use Rattle.std.proofs.Common.{◌≡◌, ℕ, ℤ, ◌<◌, List, arith, length}
use Rattle.std.proofs.lemmas.Option.{slice_get_within}
use Rattle.sot_lists.specs.Places.{At}
use Rattle.sot_lang.specs.declared.tables.ModuleInfo.{ModuleInfo}
use Rattle.sot_lang.specs.Tables.{Tables}
use Rattle.sot_lang.specs.TableRules.{MeetsTableRules}

pub plant_there : (p : Tables) (starts : List (List ℤ)) (m : ℕ) (a : ModuleInfo) → MeetsTableRules p → length starts ≡ length p.plants → At p.modules m a
    → a.plant < length starts
plant_there p starts m a rules all at =
    let plant = rules.typed.plant_is m a at in
    omega (arith, slice_get_within p.plants a.plant plant.0 plant.1, all)
