use Rattle.std.proofs.Common.{◌≡◌, ◌≤◌, length}
use Rattle.sot_test_runs.specs.Entries.{AreOf}
use Rattle.sot_test_runs.proofs.certificates.stairs.Given as goal

abbrev pub invariant-loop-h : goal.invariant-loop-h
invariant-loop-h l = record {
  width : l.region.width ≡ 2;
  boxes : length l.region.boxes ≤ l.h;
  each : AreOf 2 l.region.boxes;
}
