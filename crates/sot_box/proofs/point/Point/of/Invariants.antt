use Rattle.std.proofs.Common.{◌≡◌, ◌-◌, pos, length, take, drop, replicate}
use Rattle.sot_box.proofs.point.Point.of.Given as goal

abbrev pub invariant-loop-i : goal.invariant-loop-i
invariant-loop-i l = record {
  four : length l.inline ≡ 4;
  taken : take l.i l.inline ≡ take l.i l.at;
  rest : drop l.i l.inline ≡ replicate (4 - l.i) (pos 0);
}
