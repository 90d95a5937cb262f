-- The safe regions of the plants, and their hulls.
use Rattle.std.specs.Prelude.{ℕ, ℤ, if◌then◌else◌, List, [], ◌∷◌, slice_index_or, ◌≡◌, ◌==◌, ◌++◌}
use Rattle.std.specs.Prelude.{length}
use Rattle.sot_lang.specs.declared.tables.PlantInfo.{PlantInfo}
use Rattle.sot_lang.specs.declared.tables.ModuleInfo.{ModuleInfo}
use Rattle.sot_lang.specs.Tables.{Tables}
use Rattle.sot_box.specs.Sides.{Side}
use Rattle.sot_lists.specs.Places.{At}
use Rattle.sot_box.specs.Regions.{IsInRegion, IsHull}

-- the safe region of the first module that names the plant
abbrev pub safe_of : List ModuleInfo → ℕ → List (List Side)
safe_of [] k = []
safe_of (m ∷ ms) k = if m.plant == k then m.safe.boxes else safe_of ms k

-- the plants that are named have these points, each in its safe region
abbrev pub AreSafe : List ModuleInfo → List ℕ → List (List ℤ) → Type 0
AreSafe ms [] [] = Unit {0}
AreSafe ms (k ∷ ks) (s ∷ ss) = IsInRegion (safe_of ms k) s × AreSafe ms ks ss
AreSafe ms [] (s ∷ ss) = ⊥
AreSafe ms (k ∷ ks) [] = ⊥

-- the hulls of the safe regions of these plants
abbrev pub AreHulls : List ModuleInfo → List ℕ → List (List Side) → Type 0
AreHulls ms [] [] = Unit {0}
AreHulls ms (k ∷ ks) (b ∷ bs) = IsHull (safe_of ms k) b × AreHulls ms ks bs
AreHulls ms [] (b ∷ bs) = ⊥
AreHulls ms (k ∷ ks) [] = ⊥

-- the boxes of several plants as one, one plant after another
abbrev pub joined_boxes : List (List Side) → List Side
joined_boxes [] = []
joined_boxes (b ∷ bs) = b ++ joined_boxes bs

-- each plant is in its safe region
abbrev pub AllSafe : Tables → List (List ℤ) → Type 0
AllSafe p points =
    (k : ℕ) (plant : PlantInfo) → At p.plants k plant
    → IsInRegion (safe_of p.modules k) (slice_index_or points k [])

-- per plant, the hull of its safe region
abbrev pub AllHulls : Tables → List (List Side) → Type 0
AllHulls p hulls =
    (length hulls ≡ length p.plants) ×
    ((k : ℕ) (plant : PlantInfo) → At p.plants k plant
    → IsHull (safe_of p.modules k) (slice_index_or hulls k []))
