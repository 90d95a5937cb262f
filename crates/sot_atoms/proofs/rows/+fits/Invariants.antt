use Rattle.std.proofs.Common.{length}
use Rattle.sot_atoms.proofs.rows.+fits.Given as goal

abbrev pub decreases-fits : goal.decreases-fits
decreases-fits l = length l.axes.now
