use Rattle.std.proofs.Common.{length}
use Rattle.sot_atoms.proofs.sums.+count_up_to.Given as goal

abbrev pub decreases-count_up_to : goal.decreases-count_up_to
decreases-count_up_to l = length l.axes.now
