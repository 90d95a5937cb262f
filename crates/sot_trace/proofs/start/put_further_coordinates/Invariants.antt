use Rattle.std.proofs.Common.{drop}
use Rattle.sot_trace.specs.Numbers.{further}
use Rattle.sot_trace.proofs.start.put_further_coordinates.Given as goal

-- what puts the rest puts the whole
abbrev pub invariant-loop-i : goal.invariant-loop-i
invariant-loop-i g l =
    let puts = g.O.Out.puts in
    (y : _) → puts l.out y (further (drop l.i l.fn.point)) → puts l.initial.out y (further (drop 1 l.fn.point))
