use Rattle.sot_invariant_atoms.proofs.Extents.{extent}
use Rattle.sot_invariant_atoms.proofs.inside.+put_covered.Given as goal

abbrev pub decreases-put_covered : goal.decreases-put_covered
decreases-put_covered l = extent l.block.now
