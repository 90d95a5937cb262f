-- What a `Region` is for its callers.
use Rattle.std.specs.Prelude.{ℕ, List, Bool}
use Rattle.sot_box.specs.Sides.{Side}

-- boxes in order, the number of axes that each of them has, and whether an index of them is there
pub record BoxList : Type 0 where
  pub width : ℕ
  pub boxes : List (List Side)
  pub settled : Bool
