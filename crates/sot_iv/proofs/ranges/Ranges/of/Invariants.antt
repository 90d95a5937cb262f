use Rattle.std.proofs.Common.{◌≡◌, length, take}
use Rattle.sot_box.specs.Sides.{AreOrdered}
use Rattle.sot_iv.proofs.ranges.Ranges.of.Given as goal

abbrev pub invariant-loop-i : goal.invariant-loop-i
invariant-loop-i l = record {
  room : length l.inline ≡ 80;
  taken : take l.i l.inline ≡ take l.i l.sides;
  ordered : AreOrdered (take l.i l.sides);
}
