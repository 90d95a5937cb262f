-- Plants outside their modules' safe regions.
use Rattle.std.specs.Prelude.{ℤ, Bool, true, false, not, ◌&&◌, ◌||◌, int_le, List, [], ◌∷◌, take}
use Rattle.std.specs.Prelude.{drop, length, slice_index_or}
use Rattle.std.specs.List.{list_any}
use Rattle.sot_box.specs.Sides.{Side}
use Rattle.sot_lang.specs.declared.tables.PlantInfo.{PlantInfo}
use Rattle.sot_lang.specs.Tables.{Tables}

-- a point is in a box: each coordinate is in the interval of its axis
abbrev pub is_within : List Side → List ℤ → Bool
is_within [] [] = true
is_within (r ∷ rs) (x ∷ xs) = (int_le r.lo x && int_le x r.hi) && is_within rs xs
is_within [] (x ∷ xs) = false
is_within (r ∷ rs) [] = false

-- a point is in some box of a region
abbrev pub is_in_region : List (List Side) → List ℤ → Bool
is_in_region [] s = false
is_in_region (b ∷ bs) s = is_within b s || is_in_region bs s

-- the states of all plants, one plant after another, cut into the point of each plant
abbrev pub points_in : List PlantInfo → List ℤ → List (List ℤ)
points_in [] states = []
points_in (k ∷ ks) states =
    take (length k.states.items) states ∷ points_in ks (drop (length k.states.items) states)

-- with these states, some module's plant is outside the module's safe region
abbrev pub is_outside : Tables → List ℤ → Bool
is_outside p states =
    list_any (λ m. not (is_in_region m.safe.boxes
    (slice_index_or (points_in p.plants states) m.plant []))) p.modules
