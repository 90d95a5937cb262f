-- Between the crate's own functions: the cells of a set that meet a box.
use Rattle.std.specs.Prelude.{ℕ, ℤ, ◌≡◌, List, Bool, length}
use Rattle.sot_lists.specs.Places.{At}
use Rattle.sot_box.specs.Sides.{Side}
use Rattle.sot_box.specs.Boxes.{IsWithin}
use Rattle.sot_box.specs.Regions.{IsInRegion}
use Rattle.sot_recover.specs.Sets.{IsSet}

-- each box has so many axes
abbrev pub AreOfWidth : ℕ → List (List Side) → Type 0
AreOfWidth width boxes = (i : ℕ) (b : List Side) → At boxes i b → length b ≡ width

-- the cell at place i is in the set, and has the point
abbrev pub IsInChosen : List (List Side) → List Bool → ℕ → List ℤ → Type 0
IsInChosen cells set i s = (c : List Side) × IsSet set i × At cells i c × IsWithin c s

-- the boxes are cells of the set, and have each point that a cell of the set shares with the box
pub record IsNear (cells : List (List Side)) (set : List Bool) (b : List Side)
    (boxes : List (List Side)) : Type 0 where
  pub inside : (s : List ℤ) → IsInRegion boxes s → (i : ℕ) × IsInChosen cells set i s
  pub all : (s : List ℤ) (i : ℕ) → IsInChosen cells set i s → IsWithin b s → IsInRegion boxes s
