-- The loop of `safe`: the boxes of the heights so far, in no index.
use Rattle.std.proofs.Common.{false, ◌≡◌}
use Rattle.sot_worked_missions.specs.Pair.{stairs}
use Rattle.sot_worked_missions.proofs.battery.safe.Given as goal

abbrev pub invariant-loop-h : goal.invariant-loop-h
invariant-loop-h l = record {
  width : l.region.width ≡ 2;
  boxes : l.region.boxes ≡ stairs l.h;
  settled : l.region.settled ≡ false;
}
