use Rattle.sot_regions.specs.Grains.{TellGrains}
use Rattle.sot_regions.proofs.module.grains.Given as goal

abbrev pub invariant-loop-side : goal.invariant-loop-side
invariant-loop-side l = TellGrains l.grid l.side l.numbers
