use Rattle.sot_tube.proofs.Covered.{LieIn}
use Rattle.sot_tube.proofs.cover.lies_in.Given as goal

abbrev pub invariant-loop-i : goal.invariant-loop-i
invariant-loop-i l = LieIn l.b l.other l.i
