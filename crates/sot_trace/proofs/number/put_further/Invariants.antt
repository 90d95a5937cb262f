use Rattle.std.proofs.Common.{drop}
use Rattle.sot_trace.specs.Numbers.{further}
use Rattle.sot_trace.proofs.number.put_further.Given as goal

-- what puts the rest puts the whole
abbrev pub invariant-loop-number : goal.invariant-loop-number
invariant-loop-number g l =
    let puts = g.O.Out.puts in
    (y : _) → puts l.out y (further (drop l.number-index l.more)) → puts l.initial.out y (further l.more)
