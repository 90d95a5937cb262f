use Rattle.sot_atoms.proofs.Longest.{IsLongestOf}
use Rattle.sot_atoms.proofs.block.longest.Given as goal

abbrev pub invariant-loop-k : goal.invariant-loop-k
invariant-loop-k l = IsLongestOf l.block l.k l.axis
