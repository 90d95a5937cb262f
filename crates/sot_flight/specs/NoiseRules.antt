-- What the disturbances of a plant satisfy, on which the readers of a flight stand.
use Rattle.std.specs.Prelude.{ℕ, ◌≤◌, length}
use Rattle.sot_lists.specs.Places.{At}
use Rattle.sot_lang.specs.declared.tables.NoiseInfo.{NoiseInfo}
use Rattle.sot_lang.specs.declared.tables.PlantInfo.{PlantInfo}
use Rattle.sot_lang.specs.TableRules.{IsNarrow}

-- at most four disturbances, each with a number in its bounds and at most 2^32 of them
pub record HasNarrowNoise (plant : PlantInfo) : Type 0 where
  pub few : length plant.noise.items ≤ 4
  pub narrow : (i : ℕ) (info : NoiseInfo) → At plant.noise.items i info → IsNarrow info.lo info.hi
