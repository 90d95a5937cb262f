use Rattle.sot_recover.proofs.Boxes.{TubeSoFar}
use Rattle.sot_recover.proofs.tube.put_boxes.Given as goal

abbrev pub invariant-loop-tick : goal.invariant-loop-tick
invariant-loop-tick l = TubeSoFar l.p l.plant l.first l.held l.seen l.area l._tick l.names l.boxes.items
