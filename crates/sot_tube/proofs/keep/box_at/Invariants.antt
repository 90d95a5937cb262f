use Rattle.std.proofs.Common.{◌≡◌, take}
use Rattle.sot_box.specs.Boxes.{point_box}
use Rattle.sot_tube.proofs.keep.box_at.Given as goal

abbrev pub invariant-loop-i : goal.invariant-loop-i
invariant-loop-i l = l.sides ≡ point_box (take l.i l.s)
