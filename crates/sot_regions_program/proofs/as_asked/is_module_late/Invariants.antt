use Rattle.sot_rta.specs.Refused.{PassBefore}
use Rattle.sot_regions_program.proofs.Late.{module_in_time}
use Rattle.sot_regions_program.proofs.as_asked.is_module_late.Given as goal

abbrev pub invariant-loop-module : goal.invariant-loop-module
invariant-loop-module l = PassBefore l.p.modules (module_in_time l.jitter) l.«module»
