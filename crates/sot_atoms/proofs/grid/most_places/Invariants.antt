use Rattle.std.proofs.Common.{◌<◌, length}
use Rattle.sot_atoms.proofs.grid.most_places.Given as goal

abbrev pub invariant-loop-i : goal.invariant-loop-i
invariant-loop-i l = l.most < length l.hull
