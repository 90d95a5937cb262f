-- The loop of `safe`: the boxes of the speeds so far, in no index.
use Rattle.std.proofs.Common.{false, ◌≡◌}
use Rattle.sot_worked_missions.specs.Double.{rows}
use Rattle.sot_worked_missions.proofs.arm.safe.Given as goal

abbrev pub invariant-loop-n : goal.invariant-loop-n
invariant-loop-n l = record {
  width : l.region.width ≡ 2;
  boxes : l.region.boxes ≡ rows l.n;
  settled : l.region.settled ≡ false;
}
