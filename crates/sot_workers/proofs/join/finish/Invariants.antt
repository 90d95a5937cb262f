use Rattle.std.proofs.Common.{◌≡◌}
use Rattle.sot_turn.specs.Passes.{lock_of, pass_lock}
use Rattle.sot_fly_worker.specs.Shifts.{IsOnShift}
use Rattle.sot_workers.proofs.join.finish.Given as goal

abbrev pub invariant-loop : goal.invariant-loop
invariant-loop g l = record {
  lock : pass_lock l.shift.pass ≡ lock_of l.turn;
  goes_on : (began : _) → IsOnShift g.C.Controller.asked began l.initial.shift → IsOnShift g.C.Controller.asked began l.shift;
}
