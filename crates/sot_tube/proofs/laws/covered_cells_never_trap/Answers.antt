use Rattle.sot_tube.proofs.CellsNarrow.{cell_never_traps}
use Rattle.sot_tube.proofs.laws.covered_cells_never_trap.Goals as goal

pub returns : goal.returns
returns c p m a plant sc acts hulls cell s o typed one at_m at_p at_s free are within covers runs =
    cell_never_traps p typed one m a plant sc acts hulls cell s o at_m at_p at_s free are within covers runs
