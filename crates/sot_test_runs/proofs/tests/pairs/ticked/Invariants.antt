use Rattle.std.proofs.Common.{◌≡◌}
use Rattle.sot_test_runs.proofs.tests.pairs.ticked.Given as goal

abbrev pub invariant-loop-i : goal.invariant-loop-i
invariant-loop-i g l = l.w.accepted.program ≡ l.p
