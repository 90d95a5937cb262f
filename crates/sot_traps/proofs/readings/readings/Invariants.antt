use Rattle.std.proofs.Common.{take}
use Rattle.sot_traps.specs.Readings.{AreReadings}
use Rattle.sot_traps.proofs.readings.readings.Given as goal

abbrev pub invariant-loop-slot : goal.invariant-loop-slot
invariant-loop-slot l = AreReadings l.p (take l.slot-index l.slots) l.sides
