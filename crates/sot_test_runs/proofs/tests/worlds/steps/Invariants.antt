use Rattle.std.proofs.Common.{◌≡◌}
use Rattle.sot_test_runs.proofs.tests.worlds.steps.Given as goal

abbrev pub invariant-loop-step : goal.invariant-loop-step
invariant-loop-step g l = l.w.accepted.program ≡ l.initial.w.accepted.program
