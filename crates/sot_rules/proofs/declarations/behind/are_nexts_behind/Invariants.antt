-- The loop of `are_nexts_behind`: what is left decides.
use Rattle.std.proofs.Common.{◌≡◌, drop, map}
use Rattle.sot_syntax_tree.specs.TreeViews.{next_view}
use Rattle.sot_rules.specs.Behind.{nexts_behind}
use Rattle.sot_rules.proofs.declarations.behind.are_nexts_behind.Given as goal

abbrev pub invariant-loop-n : goal.invariant-loop-n
invariant-loop-n l = nexts_behind l.from (map next_view (drop l.n-index l.next)) ≡ nexts_behind l.from (map next_view l.next)
