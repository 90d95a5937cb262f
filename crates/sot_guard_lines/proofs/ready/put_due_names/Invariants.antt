use Rattle.std.proofs.Common.{drop}
use Rattle.sot_guard_lines.specs.Lines.{due_names}
use Rattle.sot_guard_lines.proofs.ready.put_due_names.Given as goal

-- what puts the rest puts the whole
abbrev pub invariant-loop-n : goal.invariant-loop-n
invariant-loop-n g l =
    let puts = g.O.Out.puts in
    (y : _) → puts l.out y (due_names (drop l.n l.nodes) l.time) → puts l.initial.out y (due_names l.nodes l.time)
