use Rattle.std.proofs.Common.{drop}
use Rattle.sot_trace.specs.Lines.{start_lines}
use Rattle.sot_trace.specs.Traces.{text_of}
use Rattle.sot_trace.proofs.start.put_starts.Given as goal

-- what puts the rest puts the whole
abbrev pub invariant-loop-i : goal.invariant-loop-i
invariant-loop-i g l =
    let puts = g.O.Out.puts in
    (y : _) → puts l.out y (text_of (start_lines (drop l.i l.plants) (drop l.i l.start))) → puts l.initial.out y (text_of (start_lines l.plants l.start))
