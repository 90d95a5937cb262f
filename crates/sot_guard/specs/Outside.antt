-- What the least boxes of plants hold, and what is observed outside of them.
use Rattle.std.specs.Prelude.{ℕ, ℤ, ◌<◌, List, [], Ok, slice_index_or}
use Rattle.sot_lists.specs.Places.{At}
use Rattle.sot_box.specs.Sides.{Side, IsIn}
use Rattle.sot_box.specs.Boxes.{IsWithin, point_box}
use Rattle.sot_lang.specs.declared.tables.PlantInfo.{PlantInfo}
use Rattle.sot_lang.specs.Tables.{Tables}
use Rattle.sot_iv.specs.PlantIntervals.{IsNextBox}
use Rattle.sot_world.specs.Changes.{held_of, seen_of}
use Rattle.sot_guard.specs.declared.outside.Outside.{Outside}

-- the least box in which plant k is to be after a tick from these points, with these scalars
abbrev pub IsBoxOf : List ℤ → List (List ℤ) → ℕ → PlantInfo → List Side → Type 0
IsBoxOf scalars points k plant box =
    IsNextBox plant (point_box (slice_index_or points k [])) (point_box (held_of plant scalars))
    (point_box (seen_of plant points)) (Ok box)

-- each plant has such a box: no operand of its tick may trap
abbrev pub HaveBoxes : Tables → List ℤ → List (List ℤ) → Type 0
HaveBoxes p scalars points =
    (k : ℕ) (plant : PlantInfo) → At p.plants k plant
    → (box : List Side) × IsBoxOf scalars points k plant box

-- plant k is at a point of its box
abbrev pub IsInBox : List ℤ → List (List ℤ) → ℕ → PlantInfo → List ℤ → Type 0
IsInBox scalars points k plant s =
    (box : List Side) × IsBoxOf scalars points k plant box × IsWithin box s

-- the plants before this place are at points of their boxes
abbrev pub AreInBoxes : Tables → List ℤ → List (List ℤ) → List (List ℤ) → ℕ → Type 0
AreInBoxes p scalars points next n =
    (k : ℕ) (plant : PlantInfo) → k < n → At p.plants k plant
    → IsInBox scalars points k plant (slice_index_or next k [])

-- on axis i, and on none before it, the point has a number outside its interval there
pub record IsFirstAxis (box : List Side) (s : List ℤ) (i : ℕ) (bounds : Side) (value : ℤ) : Type 0
  where
    pub bounds_are : At box i bounds
    pub value_is : At s i value
    pub outside : IsIn bounds value → ⊥
    pub before : (j : ℕ) (r : Side) (z : ℤ) → j < i → At box j r → At s j z → IsIn r z

-- the first state variable of the first plant that is observed outside its box, with its interval
-- there and its number
pub record IsFirstOutside (p : Tables) (scalars : List ℤ) (points next : List (List ℤ))
    (o : Outside) : Type 0 where
  pub plant : PlantInfo
  pub is : At p.plants o.plant plant
  pub box : List Side
  pub box_is : IsBoxOf scalars points o.plant plant box
  pub first : IsFirstAxis box (slice_index_or next o.plant []) o.state o.bounds o.value
  pub before : AreInBoxes p scalars points next o.plant
