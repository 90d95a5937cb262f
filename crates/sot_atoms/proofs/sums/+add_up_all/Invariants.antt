use Rattle.std.proofs.Common.{length}
use Rattle.sot_atoms.proofs.sums.+add_up_all.Given as goal

abbrev pub decreases-add_up_all : goal.decreases-add_up_all
decreases-add_up_all l = length l.axes.now
