use Rattle.std.proofs.Common.{drop, map}
use Rattle.sot_trace.specs.Traces.{text_of}
use Rattle.sot_guard_protocol.specs.Answers.{told_line}
use Rattle.sot_guard_protocol.proofs.put.put_all_told.Given as goal

-- what puts the rest puts the whole
abbrev pub invariant-loop-i : goal.invariant-loop-i
invariant-loop-i g l =
    let puts = g.O.Out.puts in
    (y : _) → puts l.out y (text_of (map (told_line l.p l.time) (drop l.i l.told)))
    → puts l.initial.out y (text_of (map (told_line l.p l.time) l.told))
