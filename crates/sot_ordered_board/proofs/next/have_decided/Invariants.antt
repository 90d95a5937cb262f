use Rattle.sot_ordered_board.specs.Order.{HaveDecided}
use Rattle.sot_ordered_board.proofs.next.have_decided.Given as goal

abbrev pub invariant-loop-module : goal.invariant-loop-module
invariant-loop-module l = HaveDecided l.board.position l.«module»
