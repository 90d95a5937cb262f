use Rattle.sot_certify.specs.Widest.{IsWidestOf}
use Rattle.sot_certify.proofs.halves.widest.Given as goal

abbrev pub invariant-loop-i : goal.invariant-loop-i
invariant-loop-i l = IsWidestOf l.cell l.i l.axis
