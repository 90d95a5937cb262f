-- A box that grows until it holds another.
use Rattle.std.specs.Prelude.{◌≡◌, ℕ, ◌<◌, List, length}
use Rattle.std.specs.Int.{int_min, int_max}
use Rattle.sot_box.specs.Sides.{Side}
use Rattle.sot_box.specs.Boxes.{lows, highs}
use Rattle.sot_box.specs.Sweep.{coordinate}

-- `new` has the lesser low end and the greater high end of `old` and `by`, axis by axis
pub record IsWidened (by old new : List Side) : Type 0 where
  pub width : length new ≡ length old
  pub low : (k : ℕ) → k < length by
      → coordinate (lows new) k ≡ int_min (coordinate (lows old) k) (coordinate (lows by) k)
  pub high : (k : ℕ) → k < length by
      → coordinate (highs new) k ≡ int_max (coordinate (highs old) k) (coordinate (highs by) k)
