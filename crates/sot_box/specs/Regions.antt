-- Regions, which are lists of boxes: what they cover, their gaps and their hulls.
use Rattle.std.specs.Prelude.{ℕ, ℤ, ◌⊎◌, List, [], ◌∷◌}
use Rattle.sot_box.specs.Sides.{Side}
use Rattle.sot_lists.specs.Places.{At}
use Rattle.sot_box.specs.Boxes.{IsWithin, IsBefore}

-- a point is in a region where it is in some box
abbrev pub IsInRegion : List (List Side) → List ℤ → Type 0
IsInRegion [] s = ⊥
IsInRegion (b ∷ bs) s = IsWithin b s ⊎ IsInRegion bs s

-- a region covers a box where every point of the box is in the region
abbrev pub Covers : List (List Side) → List Side → Type 0
Covers region box = (s : List ℤ) → IsWithin box s → IsInRegion region s

-- the lexicographically least point of a box that is outside a region
pub record IsGap (region : List (List Side)) (box : List Side) (s : List ℤ) : Type 0 where
  pub inside : IsWithin box s
  pub outside : IsInRegion region s → ⊥
  pub least : (t : List ℤ) → IsWithin box t → IsBefore t s → IsInRegion region t

-- the least box around a region that has a point: it holds each point of the region, and no end can
-- be moved inwards, since some point of the region lies on it
pub record IsHull (region : List (List Side)) (box : List Side) : Type 0 where
  pub has_point : (s : List ℤ) × IsInRegion region s
  pub holds : (s : List ℤ) → IsInRegion region s → IsWithin box s
  pub low : (i : ℕ) (r : Side) → At box i r → (s : List ℤ) × IsInRegion region s × At s i r.lo
  pub high : (i : ℕ) (r : Side) → At box i r → (s : List ℤ) × IsInRegion region s × At s i r.hi

-- a region covers each of these boxes
abbrev pub CoversAll : List (List Side) → List (List Side) → Type 0
CoversAll [] region = Unit {0}
CoversAll (b ∷ bs) region = Covers region b × CoversAll bs region

-- s is the gap of the first of these boxes that the region does not cover
abbrev pub IsFirstGap : List (List Side) → List (List Side) → List ℤ → Type 0
IsFirstGap [] region s = ⊥
IsFirstGap (b ∷ bs) region s = IsGap region b s ⊎ (Covers region b × IsFirstGap bs region s)
