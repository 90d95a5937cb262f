use Rattle.std.proofs.Common.{◌≤◌, length}
use Rattle.sot_regions.proofs.levels.add_cells.Given as goal

abbrev pub invariant-loop-cell : goal.invariant-loop-cell
invariant-loop-cell l = length l.cells.items ≤ 4096
