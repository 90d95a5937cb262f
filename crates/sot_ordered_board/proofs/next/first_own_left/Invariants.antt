use Rattle.sot_ordered_board.specs.Order.{HaveFired}
use Rattle.sot_ordered_board.proofs.next.first_own_left.Given as goal

abbrev pub invariant-loop-node : goal.invariant-loop-node
invariant-loop-node l = HaveFired l.board.plan l.board.position l.node
