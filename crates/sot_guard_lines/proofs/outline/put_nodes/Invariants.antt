use Rattle.std.proofs.Common.{drop}
use Rattle.sot_guard_lines.specs.Outline.{nodes_text}
use Rattle.sot_guard_lines.proofs.outline.put_nodes.Given as goal

-- what puts the rest puts the whole
abbrev pub invariant-loop-n : goal.invariant-loop-n
invariant-loop-n g l =
    let puts = g.O.Out.puts in
    (y : _) → puts l.out y (nodes_text l.p (drop l.n l.nodes)) → puts l.initial.out y (nodes_text l.p l.nodes)
