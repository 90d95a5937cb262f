-- The loop of `note_each`: what is noted, and then what is left.
use Rattle.std.proofs.Common.{◌≡◌, drop, flat_map, map}
use Rattle.sot_syntax_tree.specs.TreeViews.{next_view}
use Rattle.sot_rules.specs.Faults.{least}
use Rattle.sot_rules.specs.Scopes.{names_in}
use Rattle.sot_rules.specs.Nexts.{next_faults_in}
use Rattle.sot_rules.proofs.declarations.next.note_each.Given as goal

abbrev pub invariant-loop-n : goal.invariant-loop-n
invariant-loop-n l =
    least l.first (flat_map (next_faults_in (names_in l.used) (names_in l.given)) (map next_view (drop l.n-index l.next)))
    ≡ least l.fn.first (flat_map (next_faults_in (names_in l.used) (names_in l.given)) (map next_view l.next))
