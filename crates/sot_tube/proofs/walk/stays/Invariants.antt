use Rattle.sot_iv.specs.PlantTicks.{ArePlantRanges}
use Rattle.sot_tube.proofs.Covered.{ShownSoFar}
use Rattle.sot_tube.proofs.walk.stays.Given as goal

abbrev pub invariant-loop-tick : goal.invariant-loop-tick
invariant-loop-tick l = ShownSoFar l.p l.plant l.region l.b l.held l.seen l.ticks l.area l._tick × ArePlantRanges l.p l.plant l.area l.held l.seen l.names
