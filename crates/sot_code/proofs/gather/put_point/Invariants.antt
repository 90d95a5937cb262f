use Rattle.std.proofs.Common.{◌≡◌, ◌+◌, ◌++◌, length, take}
use Rattle.sot_code.proofs.gather.put_point.Given as goal

abbrev pub invariant-loop-i : goal.invariant-loop-i
invariant-loop-i l = record {
  size : length l.numbers ≡ length l.initial.numbers;
  front : take (l.from + l.i) l.numbers ≡ take l.from l.initial.numbers ++ take l.i l.point;
}
