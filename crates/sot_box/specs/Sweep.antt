-- How far a sweep through a box has come.
use Rattle.std.specs.Prelude.{◌≡◌, ℕ, ◌<◌, ℤ, pos, ◌≤ℤ◌, ◌<ℤ◌, List, length, slice_index_or}
use Rattle.sot_box.specs.Sides.{Side}
use Rattle.sot_lists.specs.Places.{At}
use Rattle.sot_box.specs.Boxes.{IsWithin, lows, highs}
use Rattle.sot_box.specs.Regions.{IsInRegion}

-- the box at place i holds the point
abbrev pub HoldsAt : List (List Side) → ℕ → List ℤ → Type 0
HoldsAt boxes i s = (b : List Side) × At boxes i b × IsWithin b s

-- the coordinate on axis k
abbrev pub coordinate : List ℤ → ℕ → ℤ
coordinate xs k = slice_index_or xs k (pos 0)

-- the first k coordinates of t lie from those of `at` to those of `reach`
abbrev pub IsAlong : ℕ → List ℤ → List ℤ → List ℤ → Type 0
IsAlong k at reach t =
    (j : ℕ) → j < k → (coordinate at j ≤ℤ coordinate t j) × (coordinate t j ≤ℤ coordinate reach j)

-- `at` and `reach` are the low and the high corner of a box inside this one
pub record AreCorners (box : List Side) (at reach : List ℤ) : Type 0 where
  pub at_width : length at ≡ length box
  pub reach_width : length reach ≡ length box
  pub low : (k : ℕ) → k < length box → coordinate (lows box) k ≤ℤ coordinate at k
  pub ordered : (k : ℕ) → k < length box → coordinate at k ≤ℤ coordinate reach k
  pub high : (k : ℕ) → k < length box → coordinate reach k ≤ℤ coordinate (highs box) k

-- what lies along the two corners in the first k coordinates is in the region
abbrev pub IsSlab : List (List Side) → List Side → ℕ → List ℤ → List ℤ → Type 0
IsSlab region box k at reach =
    (t : List ℤ) → IsWithin box t → IsAlong k at reach t → IsInRegion region t

-- what lies along them in the first k coordinates, and before `at` in the next, is in the region
abbrev pub IsPassed : List (List Side) → List Side → ℕ → List ℤ → List ℤ → Type 0
IsPassed region box k at reach =
    (t : List ℤ) → IsWithin box t → IsAlong k at reach t → coordinate t k <ℤ coordinate at k
    → IsInRegion region t

-- the sweep has come to `at`: what it has passed on each axis is in the region
pub record IsSwept (region : List (List Side)) (box : List Side) (at reach : List ℤ) : Type 0 where
  pub corners : AreCorners box at reach
  pub passed : (k : ℕ) → k < length box → IsPassed region box k at reach

-- `new` has the lesser of `old` and of the high end of the box, coordinate by coordinate
pub record IsNarrowed (box : List Side) (old new : List ℤ) : Type 0 where
  pub width : length new ≡ length old
  pub below : (k : ℕ) → k < length box → coordinate new k ≤ℤ coordinate old k
  pub within : (k : ℕ) → k < length box → coordinate new k ≤ℤ coordinate (highs box) k
  pub above : (k : ℕ) → k < length box
      → (x : ℤ) → x ≤ℤ coordinate old k → x ≤ℤ coordinate (highs box) k → x ≤ℤ coordinate new k
