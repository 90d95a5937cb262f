use Rattle.std.proofs.Common.{drop}
use Rattle.sot_guard_lines.specs.Outline.{plants_text}
use Rattle.sot_guard_lines.proofs.outline.put_plants.Given as goal

-- what puts the rest puts the whole
abbrev pub invariant-loop-n : goal.invariant-loop-n
invariant-loop-n g l =
    let puts = g.O.Out.puts in
    (y : _) → puts l.out y (plants_text l.p (drop l.n l.plants)) → puts l.initial.out y (plants_text l.p l.plants)
