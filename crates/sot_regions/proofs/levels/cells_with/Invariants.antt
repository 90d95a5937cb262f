use Rattle.std.proofs.Common.{◌≤◌, length}
use Rattle.sot_regions.proofs.levels.cells_with.Given as goal

abbrev pub invariant-loop-level : goal.invariant-loop-level
invariant-loop-level l = length l.cells.items ≤ 4096
