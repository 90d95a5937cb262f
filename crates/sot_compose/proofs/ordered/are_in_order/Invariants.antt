use Rattle.sot_compose.proofs.InOrder.{AreBefore}
use Rattle.sot_compose.proofs.ordered.are_in_order.Given as goal

abbrev pub invariant-loop-node : goal.invariant-loop-node
invariant-loop-node l = AreBefore l.p l.node l.behind l.next
