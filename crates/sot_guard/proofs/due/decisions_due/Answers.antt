use Rattle.std.proofs.Common.{◌≡◌, ◌↔◌, true, false, slice_index_or, sym, subst, arith}
use Rattle.std.proofs.lemmas.List.{with_items_is}
use Rattle.sot_calendar.specs.Due.{IsDue}
use Rattle.sot_guard.proofs.due.decisions_due.Goals as goal

pub returns-clause-left : goal.returns-clause-left
returns-clause-left c = λ m a at.
    let left_is = with_items_is c.in_ok-left.left c.leave_due_decisions.new.left (omega (arith, c.leave_due_decisions.auto.left, c.deref_mut.ensures.len)) in
    subst (λ l. (slice_index_or l m false ≡ true) ↔ IsDue a.period a.offset c.args.time) (sym left_is) (c.leave_due_decisions.ensures.left m a at)
