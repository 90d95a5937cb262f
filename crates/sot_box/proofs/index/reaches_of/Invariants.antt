use Rattle.sot_box.proofs.Indexes.{IsReachedTo}
use Rattle.sot_box.proofs.index.reaches_of.Given as goal

abbrev pub invariant-loop-e : goal.invariant-loop-e
invariant-loop-e l = IsReachedTo l.boxes l.entries l.e-index l.greatest l.reaches.items
