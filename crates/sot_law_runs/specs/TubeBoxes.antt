-- The boxes of a tube, tick by tick.
use Rattle.std.specs.Prelude.{ℕ, zero, suc, ℤ, List, Ok, ◌≡◌, ◌≤◌}
use Rattle.sot_box.specs.Sides.{Side}
use Rattle.sot_box.specs.Boxes.{IsWithin}
use Rattle.sot_box.specs.Regions.{Covers}
use Rattle.sot_lang.specs.declared.tables.PlantInfo.{PlantInfo}
use Rattle.sot_lang.specs.Tables.{Tables}
use Rattle.sot_lang.specs.Values.{Outcome}
use Rattle.sot_lang.specs.Ranges.{input_ranges}
use Rattle.sot_lang.specs.SafeRegions.{AreHulls, joined_boxes}
use Rattle.sot_lang.specs.Reach.{ComesTo}
use Rattle.sot_iv.specs.PlantIntervals.{IsNextBox}
use Rattle.sot_tube.specs.Tubes.{TubeInside}

-- the box after so many ticks from a first box: that box itself, and then the least box after one
-- tick more
abbrev pub IsBoxAfter : PlantInfo → List Side → List Side → List Side → ℕ → List Side → Type 0
IsBoxAfter plant commands seen first zero box = box ≡ first
IsBoxAfter plant commands seen first (suc j) box =
    (before : List Side) × IsBoxAfter plant commands seen first j before
    × IsNextBox plant before commands seen (Ok box)

-- an outcome is a point of a box, and no trap
abbrev pub IsPointOf : List Side → Outcome (List ℤ) → Type 0
IsPointOf box o = (s : List ℤ) × (o ≡ Ok s) × IsWithin box s

-- a tube that is inside a region has a box at each of its ticks, and the region covers it
abbrev pub TubesHaveTheirBoxes : Type 0
TubesHaveTheirBoxes =
    (p : Tables) (plant : PlantInfo) (commands : List Side) (region : List (List Side))
    (first : List Side) (k : ℕ) (tube : TubeInside p plant commands region first k) →
    (j : ℕ) → j ≤ k → (box : List Side)
    × IsBoxAfter plant commands (joined_boxes tube.hulls) first j box × Covers region box

-- there is one box at most after so many ticks
abbrev pub BoxesAreUnique : Type 0
BoxesAreUnique =
    (plant : PlantInfo) (commands seen first : List Side) (j : ℕ) (box other : List Side) →
    IsBoxAfter plant commands seen first j box → IsBoxAfter plant commands seen first j other
    → box ≡ other

-- with any commands in their types, what a plant can come to after exactly j ticks from a point of
-- the first box is a point of the box after j ticks
abbrev pub AnyReachIsInTheBox : Type 0
AnyReachIsInTheBox =
    (p : Tables) (plant : PlantInfo) (hulls : List (List Side)) (first box : List Side) (j : ℕ)
    (s : List ℤ) (o : Outcome (List ℤ)) →
    AreHulls p.modules plant.sees.items hulls
    → IsBoxAfter plant (input_ranges p plant) (joined_boxes hulls) first j box
    → IsWithin first s →
    ComesTo p plant (IsWithin (input_ranges p plant)) s j o → IsPointOf box o

-- with commands that are held, and lie in the intervals of the tube's commands, what a plant can
-- come to after exactly j ticks from a point of the first box is a point of the box after j ticks
abbrev pub HeldReachIsInTheBox : Type 0
HeldReachIsInTheBox =
    (p : Tables) (plant : PlantInfo) (commands : List Side) (hulls : List (List Side))
    (first box : List Side) (j : ℕ) (s c : List ℤ) (o : Outcome (List ℤ)) →
    IsWithin commands c → AreHulls p.modules plant.sees.items hulls
    → IsBoxAfter plant commands (joined_boxes hulls) first j box → IsWithin first s →
    ComesTo p plant (λ d. d ≡ c) s j o → IsPointOf box o
