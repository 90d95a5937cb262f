use Rattle.sot_rta.specs.Refused.{PassBefore}
use Rattle.sot_regions_program.proofs.Own.{own_slot}
use Rattle.sot_regions_program.proofs.alone.are_own.Given as goal

abbrev pub invariant-loop-i : goal.invariant-loop-i
invariant-loop-i l = PassBefore l.reads (own_slot l.plant) l.i
