-- What the evaluation of a plant's tick needs and gives.
use Rattle.std.specs.Prelude.{◌≡◌, ℕ, List, ◌++◌, length}
use Rattle.sot_box.specs.Sides.{Side}
use Rattle.sot_lists.specs.Places.{At}
use Rattle.sot_lang.specs.declared.tables.PlantInfo.{PlantInfo}
use Rattle.sot_lang.specs.Tables.{Tables}
use Rattle.sot_lang.specs.OwnerNames.{seen_width}
use Rattle.sot_lang.specs.Ranges.{bounds}
use Rattle.sot_iv.specs.TermIntervals.{OrMayTrap, AreTermIntervals}
use Rattle.sot_iv.specs.PlantIntervals.{IsNextBox}

-- the plant exists, and there is an interval for each of its state variables, inputs and seen
-- states
pub record MayTickBox (p : Tables) (k : ℕ) (box held seen : List Side) : Type 0 where
  pub plant : PlantInfo
  pub is : At p.plants k plant
  pub states : length box ≡ length plant.states.items
  pub inputs : length held ≡ length plant.inputs.items
  pub seen_are : length seen ≡ seen_width p.plants plant.sees.items

-- the answer is the plant's next box, or its first trap
abbrev pub IsBoxAfterTick : Tables → ℕ → List Side → List Side → List Side → OrMayTrap (List Side)
    → Type 0
IsBoxAfterTick p k box held seen result =
    (plant : PlantInfo) → At p.plants k plant → IsNextBox plant box held seen result

-- where each name of a plant's expressions may be, from a box, with commands and the states of seen
-- plants in these intervals
abbrev pub ArePlantRanges : Tables → ℕ → List Side → List Side → List Side → List Side → Type 0
ArePlantRanges p k box held seen names =
    (plant : PlantInfo) → At p.plants k plant → names ≡ box ++ held ++ seen ++ bounds plant

-- the intervals are those of the plant's names from some box, with some commands and states of seen
-- plants
pub record MayTickOver (p : Tables) (k : ℕ) (names : List Side) : Type 0 where
  pub box : List Side
  pub held : List Side
  pub seen : List Side
  pub may : MayTickBox p k box held seen
  pub are : ArePlantRanges p k box held seen names

-- the answer is the plant's next box with its names in these intervals, or its first trap
abbrev pub IsBoxOver : Tables → ℕ → List Side → OrMayTrap (List Side) → Type 0
IsBoxOver p k names result =
    (plant : PlantInfo) → At p.plants k plant → AreTermIntervals plant.next.items names result
