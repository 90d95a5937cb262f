use Rattle.std.proofs.Common.{◌≡◌}
use Rattle.sot_test_runs.proofs.tests.worlds.a_flight_switches_and_returns.Given as goal

abbrev pub invariant-loop-time : goal.invariant-loop-time
invariant-loop-time g l = l.w.accepted.program ≡ l.initial.w.accepted.program
