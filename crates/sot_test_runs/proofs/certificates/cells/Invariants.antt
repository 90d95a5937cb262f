use Rattle.std.proofs.Common.{◌≡◌, ◌≤◌, length}
use Rattle.sot_test_runs.specs.Entries.{AreOf}
use Rattle.sot_test_runs.proofs.certificates.cells.Given as goal

abbrev pub invariant-loop-i : goal.invariant-loop-i
invariant-loop-i l = record {
  width : l.region.width ≡ 1;
  boxes : length l.region.boxes ≤ l.i;
  each : AreOf 1 l.region.boxes;
}
