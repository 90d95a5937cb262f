use Rattle.sot_regions_program.specs.Steps.{ArePadded}
use Rattle.sot_regions_program.proofs.before.padded.Given as goal

abbrev pub invariant-loop-none : goal.invariant-loop-none
invariant-loop-none l = ArePadded l.fn.cells.items l.all.items l._none
