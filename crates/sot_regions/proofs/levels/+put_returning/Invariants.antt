use Rattle.sot_invariant_atoms.proofs.Extents.{extent}
use Rattle.sot_regions.proofs.levels.+put_returning.Given as goal

abbrev pub decreases-put_returning : goal.decreases-put_returning
decreases-put_returning l = extent l.block.now
