use Rattle.std.proofs.Common.{◌<◌, ap, sym, ◌∙◌, subst}
use Rattle.sot_lists.specs.Places.{At}
use Rattle.sot_world.proofs.world.World.may_tick.Goals as goal

pub no_decision_at_deadline-requires-clause-periods : goal.no_decision_at_deadline-requires-clause-periods
no_decision_at_deadline-requires-clause-periods c = λ m a at.
    let here = subst (λ l. At l m a) c.deref-then-no_node_at_deadline.ensures.value at in
    let kept = c.self.invariant.kept in
    let there = subst (λ l. At l m a) (ap (λ t. t.modules) (c.p.view_is ∙ c.typed-p.ensures.program)) here in
    let late = kept.certified.module_jitter m a there in (
      subst (λ j. j < a.period) (sym (ap (λ k. k.jitter) c.cert.ensures.cert)) late,
      c.p.invariant.typed.module_times m a here,
      (c.p.invariant.modules m a here).period,
    )
