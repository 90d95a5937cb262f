use Rattle.sot_fly_worker.specs.Shifts.{IsOnShift}
use Rattle.sot_fly_worker.proofs.turns.work.Given as goal

abbrev pub invariant-loop : goal.invariant-loop
invariant-loop g l = IsOnShift g.C.Controller.asked l.initial.shift l.shift
