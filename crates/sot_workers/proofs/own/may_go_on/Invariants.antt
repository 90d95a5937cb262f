use Rattle.sot_ordered_board.specs.Order.{HaveFired}
use Rattle.sot_workers.proofs.own.may_go_on.Given as goal

-- no tick has to wait for the nodes so far
abbrev pub invariant-loop-node : goal.invariant-loop-node
invariant-loop-node l = HaveFired l.board.plan l.board.position l.node
