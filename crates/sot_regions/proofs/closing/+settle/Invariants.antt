use Rattle.sot_invariant_atoms.proofs.Extents.{extent}
use Rattle.sot_regions.proofs.closing.+settle.Given as goal

abbrev pub decreases-settle : goal.decreases-settle
decreases-settle l = extent l.part.now
