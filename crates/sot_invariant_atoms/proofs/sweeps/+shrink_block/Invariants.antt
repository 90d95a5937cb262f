use Rattle.sot_invariant_atoms.proofs.Extents.{extent}
use Rattle.sot_invariant_atoms.proofs.sweeps.+shrink_block.Given as goal

abbrev pub decreases-shrink_block : goal.decreases-shrink_block
decreases-shrink_block l = extent l.block.now
