-- The hulls of the safe regions of seen plants, one after another.
use Rattle.std.specs.Prelude.{ℕ, List, ◌≡◌}
use Rattle.sot_lang.specs.declared.tables.ModuleInfo.{ModuleInfo}
use Rattle.sot_box.specs.Sides.{Side}
use Rattle.sot_lang.specs.SafeRegions.{AreHulls, joined_boxes}

-- these sides are those of the hulls of the safe regions of these plants
abbrev pub AreSeenHulls : List ModuleInfo → List ℕ → List Side → Type 0
AreSeenHulls modules sees sides =
    (hulls : List (List Side)) × AreHulls modules sees hulls × (sides ≡ joined_boxes hulls)
