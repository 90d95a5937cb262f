use Rattle.std.proofs.Common.{◌≡◌, take, length}
use Rattle.sot_guard.proofs.put.put_points.Given as goal

abbrev pub invariant-loop-k : goal.invariant-loop-k
invariant-loop-k l = record {
  size : length l.points ≡ length l.next;
  front : take l.k l.points ≡ take l.k l.next;
}
