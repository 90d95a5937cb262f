use Rattle.sot_guard.specs.Outside.{AreInBoxes}
use Rattle.sot_guard.proofs.outside.first_outside.Given as goal

abbrev pub invariant-loop-k : goal.invariant-loop-k
invariant-loop-k l = AreInBoxes l.p l.scalars l.points l.next l.k
