use Rattle.std.proofs.Common.{◌≡◌, ◌↔◌, true, false, slice_index_or, sym, subst, arith}
use Rattle.std.proofs.lemmas.List.{with_items_is}
use Rattle.sot_calendar.specs.Due.{IsDue}
use Rattle.sot_guard.proofs.due.nodes_due.Goals as goal

pub returns-clause-left : goal.returns-clause-left
returns-clause-left c = λ n node at.
    let left_is = with_items_is c.in_ok-left.left c.leave_due_nodes.new.left (omega (arith, c.leave_due_nodes.auto.left, c.deref_mut.ensures.len)) in
    subst (λ l. (slice_index_or l n false ≡ true) ↔ IsDue node.period node.offset c.args.time) (sym left_is) (c.leave_due_nodes.ensures.left n node at)
