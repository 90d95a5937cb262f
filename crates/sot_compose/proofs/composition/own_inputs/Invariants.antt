use Rattle.sot_tube.specs.Verdict.{foreign_input}
use Rattle.sot_rta.specs.Refused.{PassBefore}
use Rattle.sot_compose.proofs.composition.own_inputs.Given as goal

abbrev pub invariant-loop-module : goal.invariant-loop-module
invariant-loop-module l = PassBefore l.p.modules (foreign_input l.p) l.«module»
