use Rattle.std.proofs.Common.{◌≡◌, length}
use Rattle.sot_invariant_atoms.proofs.tiles.reaches.Given as goal

abbrev pub invariant-loop-number : goal.invariant-loop-number
invariant-loop-number l = length l.reaches.items ≡ l.number
