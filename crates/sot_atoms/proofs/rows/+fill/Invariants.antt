use Rattle.std.proofs.Common.{◌+◌, ◌*◌, length}
use Rattle.sot_atoms.specs.Rows.{EachFills}
use Rattle.sot_atoms.proofs.rows.+fill.Given as goal

abbrev pub decreases-fill : goal.decreases-fill
decreases-fill l = 2 * length l.axes.now

abbrev pub decreases-each_fill : goal.decreases-each_fill
decreases-each_fill l = 2 * length l.inner.now + 1

abbrev pub invariant-each_fill-loop-a : goal.invariant-each_fill-loop-a
invariant-each_fill-loop-a l =
    EachFills l.byte l.initial.bytes l.bytes l.size l.fn.side.from l.a l.inner l.within l.before
