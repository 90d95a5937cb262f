use Rattle.std.proofs.Common.{ℕ, ◌+◌, ◌*◌, ◌<◌, ◌≤◌, length}
use Rattle.sot_atoms.specs.Rows.{Lacks}
use Rattle.sot_atoms.proofs.rows.+lacks.Given as goal

abbrev pub decreases-lacks : goal.decreases-lacks
decreases-lacks l = 2 * length l.axes.now

abbrev pub decreases-each_lacks : goal.decreases-each_lacks
decreases-each_lacks l = 2 * length l.inner.now + 1

abbrev pub invariant-each_lacks-loop-a : goal.invariant-each_lacks-loop-a
invariant-each_lacks-loop-a l =
    (b : ℕ) → l.fn.side.from ≤ b → b < l.a → Lacks l.byte l.bytes l.inner l.within (l.before * l.size + b)
