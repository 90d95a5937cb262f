use Rattle.sot_box.proofs.Indexes.{IsBehind}
use Rattle.sot_box.proofs.index.indexed_holder.Given as goal

abbrev pub invariant-loop-left : goal.invariant-loop-left
invariant-loop-left l = IsBehind l.boxes l.entries l.p l.left

abbrev pub decreases-loop-left : goal.decreases-loop-left
decreases-loop-left l = l.left
