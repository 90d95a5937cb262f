use Rattle.std.proofs.Common.{◌≡◌, ◌++◌, take}
use Rattle.sot_box.specs.Boxes.{point_box}
use Rattle.sot_guard.proofs.outside.put_point.Given as goal

abbrev pub invariant-loop-i : goal.invariant-loop-i
invariant-loop-i l = l.sides ≡ l.initial.sides ++ point_box (take l.i l.s)
