use Rattle.std.proofs.Common.{◌+◌, ◌*◌, length}
use Rattle.sot_atoms.proofs.rows.+count.Given as goal

abbrev pub decreases-count : goal.decreases-count
decreases-count l = 2 * length l.axes.now

abbrev pub decreases-each_count : goal.decreases-each_count
decreases-each_count l = 2 * length l.inner.now + 1
