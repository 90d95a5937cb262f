-- The loop of `run`: the sum so far, and that it is small.
use Rattle.std.proofs.Common.{◌≡◌, ◌*◌, ◌≤ℤ◌, pos}
use Rattle.sot_worked_missions.specs.Double.{run}
use Rattle.sot_worked_missions.proofs.arm.run.Given as goal

abbrev pub invariant-loop-i : goal.invariant-loop-i
invariant-loop-i l = record {
  sum : l.total ≡ pos (run l.i);
  bound : l.total ≤ℤ pos (14 * l.i);
}
