use Rattle.std.proofs.Common.{drop}
use Rattle.sot_trace.specs.Traces.{text_of}
use Rattle.sot_guard_protocol.specs.Answers.{hold_lines}
use Rattle.sot_guard_protocol.proofs.put.put_holds.Given as goal

-- what puts the rest puts the whole
abbrev pub invariant-loop-k : goal.invariant-loop-k
invariant-loop-k g l =
    let puts = g.O.Out.puts in
    (y : _) → puts l.out y (text_of (hold_lines l.p l.time l.scalars l.k (drop l.k l.p.plants)))
    → puts l.initial.out y (text_of (hold_lines l.p l.time l.scalars 0 l.p.plants))
