use Rattle.std.proofs.Common.{drop}
use Rattle.sot_guard_lines.specs.Lines.{all_held}
use Rattle.sot_guard_lines.proofs.hold.put_all_held.Given as goal

-- what puts the rest puts the whole
abbrev pub invariant-loop-i : goal.invariant-loop-i
invariant-loop-i g l =
    let puts = g.O.Out.puts in
    (y : _) → puts l.out y (all_held l.p (drop l.i l.inputs) l.scalars) → puts l.initial.out y (all_held l.p l.inputs l.scalars)
