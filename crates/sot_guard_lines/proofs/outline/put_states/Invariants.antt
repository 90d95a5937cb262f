use Rattle.std.proofs.Common.{drop}
use Rattle.sot_guard_lines.specs.Outline.{states_text}
use Rattle.sot_guard_lines.proofs.outline.put_states.Given as goal

-- what puts the rest puts the whole
abbrev pub invariant-loop-i : goal.invariant-loop-i
invariant-loop-i g l =
    let puts = g.O.Out.puts in
    (y : _) → puts l.out y (states_text l.plant (drop l.i l.states)) → puts l.initial.out y (states_text l.plant l.states)
