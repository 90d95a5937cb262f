-- Where modules start.
use Rattle.std.specs.Prelude.{ℕ, ◌<◌, ◌≡◌, ℤ, List, [], length, slice_index_or}
use Rattle.sot_lang.specs.declared.tables.PlantInfo.{PlantInfo}
use Rattle.sot_lang.specs.declared.tables.ModuleInfo.{ModuleInfo}
use Rattle.sot_lang.specs.Tables.{Tables}
use Rattle.sot_lists.specs.Places.{At}
use Rattle.sot_world.specs.declared.open_fail.OpenFail.{OpenFail}
use Rattle.sot_world.specs.declared.open_fail.OpenFail.TheVariants.{NotSafer, Memory}
use Rattle.sot_box.specs.Regions.{IsInRegion}

-- one point for each plant, with one coordinate for each of its state variables
pub record AreStarts (p : Tables) (start : List (List ℤ)) : Type 0 where
  pub each : length start ≡ length p.plants
  pub widths : (k : ℕ) (plant : PlantInfo) → At p.plants k plant
      → length (slice_index_or start k []) ≡ length plant.states.items

-- the modules before this place start inside their safer regions
abbrev pub StartInside : Tables → List (List ℤ) → ℕ → Type 0
StartInside p start m =
    (k : ℕ) (a : ModuleInfo) → k < m → At p.modules k a
    → IsInRegion a.safer.boxes (slice_index_or start a.plant [])

-- the first module that starts outside its safer region
pub record IsFirstOutside (p : Tables) (start : List (List ℤ)) (m : ℕ) : Type 0 where
  pub info : ModuleInfo
  pub is : At p.modules m info
  pub outside : IsInRegion info.safer.boxes (slice_index_or start info.plant []) → ⊥
  pub before : StartInside p start m

-- of a refused opening that is no want of memory, this holds of the module
abbrev pub IfNotSafer : OpenFail → (ℕ → Type 0) → Type 0
IfNotSafer (NotSafer m) P = P m
IfNotSafer Memory P = Unit {0}
