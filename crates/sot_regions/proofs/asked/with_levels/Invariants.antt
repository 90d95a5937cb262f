use Rattle.sot_invariant_atoms.specs.Asking.{asked_width}
use Rattle.sot_regions.specs.Shapes.{HasShape}
use Rattle.sot_regions.proofs.asked.with_levels.Given as goal

abbrev pub invariant-loop-finer : goal.invariant-loop-finer
invariant-loop-finer l = HasShape (asked_width l.ask) l.found
