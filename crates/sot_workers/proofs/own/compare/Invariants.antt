use Rattle.sot_workers.proofs.Going.{AreInStep}
use Rattle.sot_workers.proofs.own.compare.Given as goal

abbrev pub invariant-loop-node : goal.invariant-loop-node
invariant-loop-node g l = AreInStep l.board l.away l.lists.items l.node
