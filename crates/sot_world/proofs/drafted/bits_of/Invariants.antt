use Rattle.sot_world.proofs.KeptDrafts.{BitsSoFar}
use Rattle.sot_world.proofs.drafted.bits_of.Given as goal

abbrev pub invariant-loop-i : goal.invariant-loop-i
invariant-loop-i l = BitsSoFar l.there l.i l.bits
