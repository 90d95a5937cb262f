use Rattle.sot_iv.specs.PlantTicks.{ArePlantRanges}
use Rattle.sot_tube.proofs.Walks.{WalkSoFar}
use Rattle.sot_tube.proofs.walk.test_each.Given as goal

abbrev pub invariant-loop-tick : goal.invariant-loop-tick
invariant-loop-tick l = WalkSoFar l.p l.plant l.region l.b l.held l.seen l.ticks l.area l.tick × ArePlantRanges l.p l.plant l.area l.held l.seen l.names
