-- Boxes of one to four sides, kept in four slots.
use Rattle.std.specs.Prelude.{◌≡◌, ◌-◌, ◌<◌, ◌≤◌, pos, List, ◌++◌, length, take, drop, replicate}
use Rattle.sot_box.specs.PointSlots.{width-taken, slots-back}
use Rattle.sot_box.specs.Sides.{Side, AreOrdered}
use Rattle.sot_box.specs.declared.box_n.BoxN.TheInside as box

abbrev pub zero_side : Side
zero_side = record { lo = pos 0; hi = pos 0 }

abbrev pub side_list : box.Inside → List Side
side_list b = take b.width b.sides

-- the slots behind the width hold the interval of 0 alone
abbrev pub IsBox : box.Inside → Type 0
IsBox b =
    (0 < b.width) × (b.width ≤ 4) × (length b.sides ≡ 4)
    × (drop b.width b.sides ≡ replicate (4 - b.width) zero_side) × AreOrdered (side_list b)

abbrev pub box_of : List Side → box.Inside
box_of xs = record { width = length xs; sides = xs ++ replicate (4 - length xs) zero_side }

pub box_of-side_list : (b : box.Inside) → IsBox b → box_of (side_list b) ≡ b
box_of-side_list b h i = record {
  width = width-taken b.width b.sides h.2 h.1 i;
  sides = slots-back b.width b.sides zero_side h.2 h.1 h.3 i;
}
