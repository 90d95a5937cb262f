-- What a region that was found is, beside the one that was given.
use Rattle.std.specs.Prelude.{◌≡◌, ℕ, ◌≤◌, ℤ, true, List, length}
use Rattle.sot_lists.specs.Places.{At}
use Rattle.sot_box.specs.Sides.{Side, AreOrdered}
use Rattle.sot_box.specs.BoxList.{BoxList}
use Rattle.sot_box.specs.Regions.{IsInRegion}
use Rattle.sot_lang.specs.declared.tables.ModuleInfo.{ModuleInfo}
use Rattle.sot_lang.specs.declared.cert.Cells.{Cells}
use Rattle.sot_lang.specs.Tables.{Tables}
use Rattle.sot_certified_text.specs.ReadBack.{AreShort}
use Rattle.sot_regions_rewrite.specs.declared.modules.ModuleRegions.{ModuleRegions}

-- every point of one region is in another
abbrev pub IsInside : BoxList → BoxList → Type 0
IsInside found given =
    (point : List ℤ) → IsInRegion found.boxes point → IsInRegion given.boxes point

-- a region has one box at least, and at most so many
abbrev pub HasBoxes : ℕ → BoxList → Type 0
HasBoxes most region = (1 ≤ length region.boxes) × (length region.boxes ≤ most)

-- regions for the first modules of a program, so many: each `safe` lies inside the given one, and
-- each region has 1 to 256 boxes
pub record AreFirstFound (t : Tables) (regions : List ModuleRegions) (count : ℕ) : Type 0 where
  pub count_is : length regions ≡ count
  pub inside : (k : ℕ) (a : ModuleInfo) (r : ModuleRegions) → At t.modules k a → At regions k r
      → IsInside r.safe a.safe
  pub boxes : (k : ℕ) (r : ModuleRegions) → At regions k r
      → HasBoxes 256 r.safe × HasBoxes 256 r.safer

-- for all of them
abbrev pub AreFound : Tables → List ModuleRegions → Type 0
AreFound t regions = AreFirstFound t regions (length t.modules)

-- boxes of so many axes, with ends from -10^12 to 10^12
abbrev pub IsBoxFor : ℕ → List Side → Type 0
IsBoxFor width box = (length box ≡ width) × AreOrdered box × AreShort box

abbrev pub AreBoxesFor : ℕ → List (List Side) → Type 0
AreBoxesFor width boxes = (i : ℕ) (box : List Side) → At boxes i box → IsBoxFor width box

-- a list of at most so many of them, which a program or a certificate can have: it has its index
pub record IsList (width most : ℕ) (region : BoxList) : Type 0 where
  pub width_is : region.width ≡ width
  pub count : HasBoxes most region
  pub each : AreBoxesFor width region.boxes
  pub settled : region.settled ≡ true

-- what was found for a module: its regions, and the lists of cells that cover them
pub record IsFinding (a : ModuleInfo) (regions : ModuleRegions) (cells : Cells) : Type 0 where
  pub inside : IsInside regions.safe a.safe
  pub safe : IsList a.safe.width 256 regions.safe
  pub safer : IsList a.safe.width 256 regions.safer
  pub closed : IsList a.safe.width 4096 cells.closed
  pub reach : IsList a.safe.width 4096 cells.reach
