-- Tubes of plants that look the same have the same boxes.
use Rattle.std.proofs.Common.{◌≡◌, ℕ, zero, suc, List, Ok, refl}
use Rattle.sot_box.specs.Sides.{Side}
use Rattle.sot_lang.specs.declared.tables.PlantInfo.{PlantInfo}
use Rattle.sot_typing.specs.Resolved.{plant_seen}
use Rattle.sot_law_runs.specs.TubeBoxes.{IsBoxAfter}
use Rattle.sot_law_equal_tables.proofs.Plants.{next_alike}

module _ (x y : PlantInfo) (alike : plant_seen x ≡ plant_seen y) where
  pub box_after_alike : (commands seen first : List Side) (j : ℕ) (box : List Side)
      → IsBoxAfter x commands seen first j box ≡ IsBoxAfter y commands seen first j box
  box_after_alike commands seen first zero box = refl
  box_after_alike commands seen first (suc j) box = λ i.
      (before : List Side) × box_after_alike commands seen first j before i × next_alike x y alike before commands seen (Ok box) i
