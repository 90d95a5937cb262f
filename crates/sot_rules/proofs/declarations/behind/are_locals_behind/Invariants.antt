-- The loop of `are_locals_behind`: what is left decides.
use Rattle.std.proofs.Common.{◌≡◌, drop, map}
use Rattle.sot_syntax_tree.specs.TreeViews.{local_view}
use Rattle.sot_rules.specs.Behind.{locals_behind}
use Rattle.sot_rules.proofs.declarations.behind.are_locals_behind.Given as goal

abbrev pub invariant-loop-l : goal.invariant-loop-l
invariant-loop-l l = locals_behind l.from (map local_view (drop l.l-index l.locals)) ≡ locals_behind l.from (map local_view l.locals)
