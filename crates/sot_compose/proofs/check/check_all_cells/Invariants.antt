use Rattle.sot_tube.specs.Verdict.{cells_of}
use Rattle.sot_rta.specs.Refused.{PassBefore}
use Rattle.sot_compose.proofs.check.check_all_cells.Given as goal

abbrev pub invariant-loop-module : goal.invariant-loop-module
invariant-loop-module g l = PassBefore l.p.modules (cells_of l.p l.c.jitter l.c) l.«module»
