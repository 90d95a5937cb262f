-- The loop of `note_order`: what is noted, and then what is left.
use Rattle.std.proofs.Common.{◌≡◌, drop, map}
use Rattle.sot_syntax_tree.specs.TreeViews.{next_view}
use Rattle.sot_rules.specs.Faults.{least, order_faults}
use Rattle.sot_rules.proofs.declarations.next.note_order.Given as goal

abbrev pub invariant-loop-k : goal.invariant-loop-k
invariant-loop-k l =
    least l.first (order_faults (drop l.k l.states) (map next_view (drop l.k l.next)))
    ≡ least l.fn.first (order_faults l.states (map next_view l.next))
