-- The loop of `note_each_local`: what is noted, and then what is left.
use Rattle.std.proofs.Common.{◌≡◌, ◌++◌, map, drop}
use Rattle.std.specs.Prelude.{flat_map}
use Rattle.sot_syntax_tree.specs.Trees.{Node}
use Rattle.sot_syntax_tree.specs.TreeViews.{local_view}
use Rattle.sot_rules.specs.Faults.{least, together, local_lists}
use Rattle.sot_names.specs.SeenNames.{HasNames}
use Rattle.sot_rules.proofs.declarations.node.note_each_local.Given as goal
use Rattle.sot_names.specs.NameSets.{keys_in}

abbrev pub invariant-loop-l : goal.invariant-loop-l
invariant-loop-l l =
    (n : Node) → HasNames (keys_in l.used) (n.reads ++ n.writes) →
    least l.first (flat_map (λ x. together (local_lists n x)) (map local_view (drop l.l-index l.locals)))
    ≡ least l.fn.first (flat_map (λ x. together (local_lists n x)) (map local_view l.locals))
