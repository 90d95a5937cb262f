use Rattle.std.proofs.Common.{◌≡◌, ◌-◌, length, take, drop, replicate}
use Rattle.sot_box.specs.Sides.{AreOrdered}
use Rattle.sot_box.specs.BoxSlots.{zero_side}
use Rattle.sot_box.proofs.box_n.BoxN.of.Given as goal

abbrev pub invariant-loop-i : goal.invariant-loop-i
invariant-loop-i l = record {
  four : length l.inline ≡ 4;
  taken : take l.i l.inline ≡ take l.i l.sides;
  ordered : AreOrdered (take l.i l.sides);
  rest : drop l.i l.inline ≡ replicate (4 - l.i) zero_side;
}
