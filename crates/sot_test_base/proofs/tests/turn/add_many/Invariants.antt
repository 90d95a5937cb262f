use Rattle.std.proofs.Common.{◌≡◌}
use Rattle.sot_turn.specs.Passes.{lock_of, pass_lock}
use Rattle.sot_test_base.proofs.tests.turn.add_many.Given as goal

abbrev pub invariant-loop-number : goal.invariant-loop-number
invariant-loop-number g l = pass_lock l.pass ≡ lock_of l.turn
