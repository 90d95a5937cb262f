use Rattle.std.proofs.Common.{◌≡◌, take}
use Rattle.sot_recover.proofs.within.boxes_of.Given as goal

abbrev pub invariant-loop-i : goal.invariant-loop-i
invariant-loop-i l = l.boxes.items ≡ take l.i l.region.boxes
