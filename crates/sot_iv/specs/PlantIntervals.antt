-- Least boxes of a plant, tick by tick.
use Rattle.std.specs.Prelude.{List, ◌++◌}
use Rattle.sot_lang.specs.declared.tables.PlantInfo.{PlantInfo}
use Rattle.sot_box.specs.Sides.{Side}
use Rattle.sot_lang.specs.Ranges.{bounds}
use Rattle.sot_iv.specs.TermIntervals.{OrMayTrap, AreTermIntervals}

-- the least box after one tick from a box, or the first trap, with commands and the states of seen
-- plants in these intervals and disturbances anywhere in their bounds
abbrev pub IsNextBox : PlantInfo → List Side → List Side → List Side → OrMayTrap (List Side)
    → Type 0
IsNextBox plant box commands seen o =
    AreTermIntervals plant.next.items (box ++ commands ++ seen ++ bounds plant) o
