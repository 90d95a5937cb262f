-- Boxes, tick after tick, that hold each point a plant can come to.
use Rattle.std.specs.Prelude.{ℕ, zero, suc, ℤ, List, Ok, ◌+◌, ◌*◌}
use Rattle.sot_lang.specs.declared.tables.PlantInfo.{PlantInfo}
use Rattle.sot_lang.specs.declared.tables.ModuleInfo.{ModuleInfo}
use Rattle.sot_lang.specs.Tables.{Tables}
use Rattle.sot_box.specs.Sides.{Side}
use Rattle.sot_lists.specs.Places.{At}
use Rattle.sot_box.specs.Boxes.{point_box}
use Rattle.sot_box.specs.Regions.{Covers}
use Rattle.sot_lang.specs.Ranges.{input_ranges}
use Rattle.sot_lang.specs.SafeRegions.{AreHulls, joined_boxes}
pub use Rattle.sot_iv.specs.PlantIntervals.{IsNextBox}

-- the region covers each box of the tube of k ticks from this box on, and no tick has a trapping
-- operand
abbrev pub StaysInside : PlantInfo → List Side → List Side → List (List Side) → List Side → ℕ
    → Type 0
StaysInside plant commands seen region box zero = Covers region box
StaysInside plant commands seen region box (suc k) =
    Covers region box × ((b : List Side) × IsNextBox plant box commands seen (Ok b)
    × StaysInside plant commands seen region b k)

-- the tube with these commands from a box is inside a region
pub record TubeInside (p : Tables) (plant : PlantInfo) (commands : List Side)
    (region : List (List Side)) (box : List Side) (k : ℕ) : Type 0 where
  pub hulls : List (List Side)
  pub are : AreHulls p.modules plant.sees.items hulls
  pub stays : StaysInside plant commands (joined_boxes hulls) region box k

-- the tube from a box, with commands anywhere in their types, is inside a region
abbrev pub AnyTubeInside : Tables → PlantInfo → List (List Side) → List Side → ℕ → Type 0
AnyTubeInside p plant region box k = TubeInside p plant (input_ranges p plant) region box k

-- from the point s on, the tube of twice the sum of the module's period and the jitter is inside
-- its safe region
pub record Keeps (p : Tables) (jitter : ℕ) (module_info : ModuleInfo) (s : List ℤ) : Type 0 where
  pub plant : PlantInfo
  pub is : At p.plants module_info.plant plant
  pub inside : AnyTubeInside p plant module_info.safe.boxes (point_box s)
      (2 * (module_info.period + jitter))
