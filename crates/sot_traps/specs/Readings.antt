-- The intervals of what a node reads, one by one.
use Rattle.std.specs.Prelude.{◌≡◌, ◌≢◌, ℕ, ◌<◌, List, [], ◌∷◌, length}
use Rattle.sot_box.specs.Sides.{Side}
use Rattle.sot_lists.specs.Places.{At}
use Rattle.sot_box.specs.Regions.{IsHull}
use Rattle.sot_lang.specs.declared.tables.Slot.{Slot}
use Rattle.sot_lang.specs.declared.tables.Slot.TheVariants.{Scalar, State}
use Rattle.sot_lang.specs.Tables.{Tables}
use Rattle.sot_lang.specs.OwnerNames.{width_of}
use Rattle.sot_lang.specs.SafeRegions.{safe_of}
use Rattle.sot_lang.specs.Ranges.{range_of}

-- the side of the hull of the plant's safe region on the axis of this state variable
abbrev pub IsHullSide : Tables → ℕ → ℕ → Side → Type 0
IsHullSide p k v r = (hull : List Side) × IsHull (safe_of p.modules k) hull × At hull v r

-- a scalar's range, or a side of a hull
abbrev pub IsReading : Tables → Slot → Side → Type 0
IsReading p (Scalar k) r = r ≡ range_of p.scalars k
IsReading p (State k v) r = IsHullSide p k v r

-- a range for each slot in order: a scalar's range, or a side of a hull
abbrev pub AreReadings : Tables → List Slot → List Side → Type 0
AreReadings p [] [] = Unit {0}
AreReadings p (s ∷ ss) (r ∷ rs) = IsReading p s r × AreReadings p ss rs
AreReadings p [] (r ∷ rs) = ⊥
AreReadings p (s ∷ ss) [] = ⊥

-- the scalar exists; or the plant's safe region has a box, and the plant such a state variable
abbrev pub CanBeRead : Tables → Slot → Type 0
CanBeRead p (Scalar k) = k < length p.scalars
CanBeRead p (State k v) = (safe_of p.modules k ≢ []) × (v < width_of p.plants k)
