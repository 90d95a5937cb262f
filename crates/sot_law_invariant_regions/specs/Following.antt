-- Tubes that stay among some points.
use Rattle.std.specs.Prelude.{ℕ, zero, suc, ◌+◌, ◌*◌, ℤ, List, Ok}
use Rattle.sot_lang.specs.declared.act.Act.{Act}
use Rattle.sot_lang.specs.declared.tables.PlantInfo.{PlantInfo}
use Rattle.sot_lang.specs.declared.tables.NodeInfo.{NodeInfo}
use Rattle.sot_lang.specs.declared.tables.ModuleInfo.{ModuleInfo}
use Rattle.sot_lang.specs.Tables.{Tables}
use Rattle.sot_lang.specs.SafeRegions.{AreHulls, joined_boxes}
use Rattle.sot_lang.specs.TableRules.{IsCoded}
use Rattle.sot_lists.specs.Places.{At}
use Rattle.sot_box.specs.Sides.{Side}
use Rattle.sot_box.specs.Boxes.{IsWithin, point_box}
use Rattle.sot_box.specs.Regions.{IsInRegion}
use Rattle.sot_iv.specs.BodyIntervals.{Intervals}
use Rattle.sot_tube.specs.Tubes.{IsNextBox}
use Rattle.sot_tube.specs.Certified.{DraftsFrom, command_intervals}

-- each point of a box is among some points
abbrev pub LiesAmong : (List ℤ → Type 0) → List Side → Type 0
LiesAmong Points box = (s : List ℤ) → IsWithin box s → Points s

-- each box of the tube of k ticks from this box on lies among the points, and no tick has a
-- trapping operand
abbrev pub StaysAmong : (List ℤ → Type 0) → PlantInfo → List Side → List Side → List Side → ℕ
    → Type 0
StaysAmong Points plant commands seen box zero = LiesAmong Points box
StaysAmong Points plant commands seen box (suc k) =
    LiesAmong Points box × ((b : List Side) × IsNextBox plant box commands seen (Ok b)
    × StaysAmong Points plant commands seen b k)

-- the held tube of a box, with what the safe node surely drafts from it, stays among the points for
-- the node's period and the jitter
pub record HeldStays (Points : List ℤ → Type 0) (p : Tables) (jitter : ℕ) (a : ModuleInfo)
    (box : List Side) : Type 0 where
  pub plant : PlantInfo
  pub plant_is : At p.plants a.plant plant
  pub sc : NodeInfo
  pub sc_is : At p.nodes a.sc sc
  pub acts : List Act
  pub coded : IsCoded sc acts
  pub fired : Intervals
  pub drafts : DraftsFrom p a sc acts box fired
  pub hulls : List (List Side)
  pub are : AreHulls p.modules plant.sees.items hulls
  pub stays : StaysAmong Points plant (command_intervals p plant sc fired.draft)
      (joined_boxes hulls) box (sc.period + jitter)

-- a region whose points' held tubes stay in it, as each region with a certificate is
abbrev pub IsHeldRegion : Tables → ℕ → ModuleInfo → List (List Side) → Type 0
IsHeldRegion p jitter a region =
    (s : List ℤ) → IsInRegion region s → HeldStays (IsInRegion region) p jitter a (point_box s)

-- no region with a point inside the module's safe region is held
abbrev pub HasNoHeldRegion : Tables → ℕ → ModuleInfo → Type 0
HasNoHeldRegion p jitter a =
    (region : List (List Side)) (s : List ℤ) → IsHeldRegion p jitter a region
    → ((t : List ℤ) → IsInRegion region t → IsInRegion a.safe.boxes t) → IsInRegion region s → ⊥
