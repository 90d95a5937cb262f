use Rattle.std.proofs.Common.{◌≡◌, length, take}
use Rattle.sot_box.specs.Boxes.{lows}
use Rattle.sot_box.proofs.box_n.BoxN.low.Given as goal

abbrev pub invariant-loop-i : goal.invariant-loop-i
invariant-loop-i l = record {
  width : length l.at ≡ l.i-end;
  done : take l.i l.at ≡ take l.i (lows l.self);
}
