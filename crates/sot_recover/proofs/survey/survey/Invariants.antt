use Rattle.sot_recover.specs.Surveys.{IsSurveyed}
use Rattle.sot_recover.proofs.survey.survey.Given as goal

abbrev pub invariant-loop-i : goal.invariant-loop-i
invariant-loop-i l = IsSurveyed l.p l.cert l.module l.i l.cells.boxes l.hulls.items l.set.items l.leaving.items
