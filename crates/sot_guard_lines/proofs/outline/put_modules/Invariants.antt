use Rattle.std.proofs.Common.{drop}
use Rattle.sot_guard_lines.specs.Outline.{modules_text}
use Rattle.sot_guard_lines.proofs.outline.put_modules.Given as goal

-- what puts the rest puts the whole
abbrev pub invariant-loop-m : goal.invariant-loop-m
invariant-loop-m g l =
    let puts = g.O.Out.puts in
    (y : _) → puts l.out y (modules_text (drop l.m l.modules)) → puts l.initial.out y (modules_text l.modules)
