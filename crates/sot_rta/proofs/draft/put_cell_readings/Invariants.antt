use Rattle.std.proofs.Common.{take}
use Rattle.sot_rta.specs.Drafts.{AreCellReadings}
use Rattle.sot_rta.proofs.draft.put_cell_readings.Given as goal

abbrev pub invariant-loop-slot : goal.invariant-loop-slot
invariant-loop-slot l = AreCellReadings l.p l.plant l.cell (take l.slot-index l.slots) l.sides
