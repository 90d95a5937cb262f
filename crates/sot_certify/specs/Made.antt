-- The lists of cells that are made for a module, with firings on time.
use Rattle.std.specs.Prelude.{◌≡◌, ◌<◌, ◌≤◌, ℤ, Bool, false, true, List, length}
use Rattle.sot_box.specs.Sides.{Side}
use Rattle.sot_box.specs.BoxList.{BoxList}
use Rattle.sot_lists.specs.Places.{At}
use Rattle.sot_lang.specs.declared.act.Act.{Act}
use Rattle.sot_lang.specs.declared.cert.Cells.{Cells}
use Rattle.sot_lang.specs.declared.tables.PlantInfo.{PlantInfo}
use Rattle.sot_lang.specs.declared.tables.NodeInfo.{NodeInfo}
use Rattle.sot_lang.specs.declared.tables.ModuleInfo.{ModuleInfo}
use Rattle.sot_lang.specs.Tables.{Tables}
use Rattle.sot_lang.specs.TableRules.{IsCoded}
use Rattle.sot_tube.specs.Certified.{IsClosedCell, IsReachCell}
use Rattle.sot_certify.specs.Findings.{Finding, Whole, Failing, Begun, BisectsEach}

-- a box is good as a closed cell, or as a reach cell, of the module
abbrev pub IsGood : Tables → ModuleInfo → Bool → List Side → Type 0
IsGood p a false cell =
    (plant : PlantInfo) (sc : NodeInfo) (acts : List Act) → At p.plants a.plant plant
    → At p.nodes a.sc sc → IsCoded sc acts → IsClosedCell p 0 a plant sc acts cell
IsGood p a true cell =
    (plant : PlantInfo) → At p.plants a.plant plant → IsReachCell p 0 a plant cell

-- the region whose cells a list gives: the safe one of closed cells, the safer one of reach cells
abbrev pub region_of : ModuleInfo → Bool → BoxList
region_of a false = a.safe
region_of a true = a.safer

-- what is found where the boxes of that region, in order, are halved until each is good
abbrev pub FindsCells : Tables → ModuleInfo → Bool → Finding → Type 0
FindsCells p a reach found = BisectsEach (IsGood p a reach) (region_of a reach).boxes found

-- the list is whole, and has at most 4,096 cells
pub record IsMade (p : Tables) (a : ModuleInfo) (reach : Bool) (cells : List (List Side)) : Type 0
  where
    pub whole : FindsCells p a reach (Whole cells)
    pub few : length cells ≤ 4096

-- the list fails with this point, before a 4,097th cell
pub record FailsAt (p : Tables) (a : ModuleInfo) (reach : Bool) (point : List ℤ) : Type 0 where
  pub cells : List (List Side)
  pub found : FindsCells p a reach (Failing cells point)
  pub few : length cells ≤ 4096

-- the list has a 4,097th cell, before any failing point: `Begun` says that these cells come first,
-- and leaves open what comes behind them
pub record HasTooMany (p : Tables) (a : ModuleInfo) (reach : Bool) : Type 0 where
  pub cells : List (List Side)
  pub found : FindsCells p a reach (Begun cells)
  pub many : 4096 < length cells

-- both lists of a module, as a reader of certificates keeps them
pub record AreMade (p : Tables) (a : ModuleInfo) (cells : Cells) : Type 0 where
  pub closed : IsMade p a false cells.closed.boxes
  pub reach : IsMade p a true cells.reach.boxes
  pub closed_settled : cells.closed.settled ≡ true
  pub reach_settled : cells.reach.settled ≡ true
