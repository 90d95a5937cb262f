use Rattle.std.proofs.Common.{drop}
use Rattle.sot_guard_lines.specs.Outline.{inputs_text}
use Rattle.sot_guard_lines.proofs.outline.put_inputs.Given as goal

-- what puts the rest puts the whole
abbrev pub invariant-loop-k : goal.invariant-loop-k
invariant-loop-k g l =
    let puts = g.O.Out.puts in
    (y : _) → puts l.out y (inputs_text l.p l.k (drop l.k l.scalars)) → puts l.initial.out y (inputs_text l.p 0 l.scalars)
