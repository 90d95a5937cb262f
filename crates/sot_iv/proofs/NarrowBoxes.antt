-- Boxes inside boxes: which are in order, and what lies in them.
use Rattle.std.proofs.Common.{ℤ, List, [], ◌∷◌}
use Rattle.sot_box.specs.Sides.{Side, AreOrdered}
use Rattle.sot_box.specs.Boxes.{IsWithin, point_box}
use Rattle.sot_iv.specs.Monotony.{AreNarrower}
use Rattle.sot_iv.proofs.Narrow.{le_refl_ℤ}

-- a box in order lies inside itself
pub ordered_narrower : (rs : List Side) → AreOrdered rs → AreNarrower rs rs
ordered_narrower [] o = tt
ordered_narrower (r ∷ rs) o = ((le_refl_ℤ r.lo, o.0, le_refl_ℤ r.hi), ordered_narrower rs o.1)

-- a box inside another is in order
pub narrower_ordered : (rs ss : List Side) → AreNarrower rs ss → AreOrdered rs
narrower_ordered [] [] n = tt
narrower_ordered (r ∷ rs) (s ∷ ss) n = (n.0.1, narrower_ordered rs ss n.1)
narrower_ordered [] (s ∷ ss) n = absurd n
narrower_ordered (r ∷ rs) [] n = absurd n

-- the box of a point that is within another box
pub point_narrower : (b : List Side) (s : List ℤ) → IsWithin b s → AreNarrower (point_box s) b
point_narrower [] [] w = tt
point_narrower (r ∷ rs) (z ∷ zs) w = ((w.0, le_refl_ℤ z, w.1), point_narrower rs zs w.2)
point_narrower [] (z ∷ zs) w = absurd w
point_narrower (r ∷ rs) [] w = absurd w
