use Rattle.sot_tube.specs.Verdict.{shape}
use Rattle.sot_rta.specs.Refused.{PassBefore}
use Rattle.sot_compose.proofs.check.shapes.Given as goal

abbrev pub invariant-loop-module : goal.invariant-loop-module
invariant-loop-module l = PassBefore l.p.modules (shape l.p l.c) l.«module»
