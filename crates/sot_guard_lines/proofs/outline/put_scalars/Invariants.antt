use Rattle.std.proofs.Common.{drop}
use Rattle.sot_guard_lines.specs.Outline.{scalars_text}
use Rattle.sot_guard_lines.proofs.outline.put_scalars.Given as goal

-- what puts the rest puts the whole
abbrev pub invariant-loop-i : goal.invariant-loop-i
invariant-loop-i g l =
    let puts = g.O.Out.puts in
    (y : _) → puts l.out y (scalars_text l.kind l.name l.p (drop l.i l.scalars)) → puts l.initial.out y (scalars_text l.kind l.name l.p l.scalars)
