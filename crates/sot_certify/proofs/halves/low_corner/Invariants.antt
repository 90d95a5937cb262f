use Rattle.std.proofs.Common.{◌≡◌, length, take}
use Rattle.sot_box.specs.Boxes.{lows}
use Rattle.sot_certify.proofs.halves.low_corner.Given as goal

abbrev pub invariant-loop-i : goal.invariant-loop-i
invariant-loop-i l = record {
  four : length l.at ≡ 4;
  done : take l.i l.at ≡ take l.i (lows l.cell);
}
