-- The loop of the cycle `tree_behind`: what is left decides.
use Rattle.std.proofs.Common.{◌≡◌, drop}
use Rattle.sot_syntax_tree.specs.TreeViews.{parts_view}
use Rattle.sot_rules.specs.Behind.{trees_behind}
use Rattle.sot_rules.proofs.expressions.behind.+tree_behind.Given as goal

abbrev pub invariant-are_parts_behind-loop-part : goal.invariant-are_parts_behind-loop-part
invariant-are_parts_behind-loop-part l =
    trees_behind l.from (parts_view (drop l.part-index l.parts)) ≡ trees_behind l.from (parts_view l.parts)
