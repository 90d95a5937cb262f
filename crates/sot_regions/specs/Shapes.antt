-- What is found for a module: how many boxes there are, and of how many sides.
use Rattle.std.specs.Prelude.{◌≡◌, ℕ, ◌<◌, ◌≤◌, List, length}
use Rattle.std.specs.List.{All}
use Rattle.sot_box.specs.Sides.{Side}
use Rattle.sot_regions.specs.declared.found.FoundRegions.{FoundRegions}

-- each box has so many sides
abbrev pub AreWide : ℕ → List (List Side) → Type 0
AreWide width boxes = All (λ b. length b ≡ width) boxes

-- a region as it may be written: 1 to 256 boxes of so many sides
pub record IsShort (width : ℕ) (boxes : List (List Side)) : Type 0 where
  pub some : 0 < length boxes
  pub few : length boxes ≤ 256
  pub wide : AreWide width boxes

-- two such regions, and at most 4,096 cells
pub record HasShape (width : ℕ) (found : FoundRegions) : Type 0 where
  pub safe : IsShort width found.safe.items
  pub safer : IsShort width found.safer.items
  pub few_cells : length found.cells.items ≤ 4096
  pub cells : AreWide width found.cells.items
