use Rattle.std.proofs.Common.{◌≡◌, true, length, sym, ap, ◌∙◌, subst, arith}
use Rattle.std.specs.Vec.{with_items}
use Rattle.std.proofs.lemmas.List.{with_items_is}
use Rattle.std.proofs.lemmas.Option.{slice_get_within}
use Rattle.sot_lists.specs.Places.{At}
use Rattle.sot_lists.proofs.Places.{at_same, read_at}
use Rattle.sot_lang.specs.declared.tables.TopicInfo.{TopicInfo}
use Rattle.sot_lang.proofs.Topics.{topic_inside}
use Rattle.sot_world.specs.Steps.{Input, write_at}
use Rattle.sot_world.specs.Events.{IsTypedInput}
use Rattle.sot_world.proofs.Stepping.{inputs_so}
use Rattle.sot_law_observed_runs.proofs.Steps.{step_keeps}
use Rattle.sot_guard.specs.GuardView.{configuration}
use Rattle.sot_guard.proofs.Guards.{input_guards}
use Rattle.sot_guard.proofs.Along.{inputs_along}
use Rattle.sot_guard.proofs.guard.Guard.take.Goals as goal

pub write-requires : goal.write-requires
write-requires c =
    let g = c.self.invariant in
    let topic = subst (λ s. (info : TopicInfo) × At s.accepted.program.topics c.args.topic info × (info.outside ≡ true)
    × (length c.args.value.now ≡ info.count)) (sym c.self.view_is) c.requires.topic in
    let at = read_at _ _ c.args.topic _ (ap (λ t. t.topics) (c.p.view_is ∙ c.typed-p.ensures.program)) (slice_get_within _ _ _ topic.1) c.index.ensures in
    let same = at_same _ c.args.topic topic.0 c.index.result.now topic.1 at in
    let inside = topic_inside _ g.rules c.args.topic _ at in
    let count = topic.3 ∙ ap (λ x. x.count) same in
    let room = ap length c.deref_mut.ensures.value in
    omega (arith, inside, count, room, g.sizes.scalars)

pub invariant_of-self : goal.invariant_of-self
invariant_of-self c =
    let C = configuration c.self.inside in
    let a = c.self.inside.accepted.now in
    let g = c.self.invariant in
    let topic = subst (λ s. (info : TopicInfo) × At s.accepted.program.topics c.args.topic info × (info.outside ≡ true)
    × (length c.args.value.now ≡ info.count)) (sym c.self.view_is) c.requires.topic in
    let typed = subst (λ s. IsTypedInput s.accepted.program c.args.topic c.args.value.now) (sym c.self.view_is) c.requires.typed in
    let at = read_at _ _ c.args.topic _ (ap (λ t. t.topics) (c.p.view_is ∙ c.typed-p.ensures.program)) (slice_get_within _ _ _ topic.1) c.index.ensures in
    let same = at_same a.program.topics c.args.topic c.index.result.now topic.0 at topic.1 in
    let put = with_items_is c.self.inside.scalars c.write.new.scalars (omega (arith, c.write.auto.scalars, c.deref_mut.ensures.len)) in
    let written = put ∙ c.write.ensures ∙ ap (write_at c.index.result.now.first c.args.value.now) c.deref_mut.ensures.value
    ∙ ap (λ x. write_at x.first c.args.value.now C.scalars) same in
    let step = inputs_so a.program C c.args.topic c.args.value.now topic.0 (with_items c.self.inside.scalars c.write.new.scalars).items topic.1 topic.2 topic.3
    typed written in
    input_guards a c.self.inside.trusted C g _ c.args.topic c.args.value.now step
    (λ on. step_keeps a.program a.cert g.rules g.certified C _ (Input c.args.topic c.args.value.now) (g.tubes on) step)

pub returns-clause-step : goal.returns-clause-step
returns-clause-step c =
    let C = configuration c.self.inside in
    let a = c.self.inside.accepted.now in
    let topic = subst (λ s. (info : TopicInfo) × At s.accepted.program.topics c.args.topic info × (info.outside ≡ true)
    × (length c.args.value.now ≡ info.count)) (sym c.self.view_is) c.requires.topic in
    let typed = subst (λ s. IsTypedInput s.accepted.program c.args.topic c.args.value.now) (sym c.self.view_is) c.requires.typed in
    let at = read_at _ _ c.args.topic _ (ap (λ t. t.topics) (c.p.view_is ∙ c.typed-p.ensures.program)) (slice_get_within _ _ _ topic.1) c.index.ensures in
    let same = at_same a.program.topics c.args.topic c.index.result.now topic.0 at topic.1 in
    let put = with_items_is c.self.inside.scalars c.write.new.scalars (omega (arith, c.write.auto.scalars, c.deref_mut.ensures.len)) in
    let written = put ∙ c.write.ensures ∙ ap (write_at c.index.result.now.first c.args.value.now) c.deref_mut.ensures.value
    ∙ ap (λ x. write_at x.first c.args.value.now C.scalars) same in
    inputs_along _ _ c.args.topic c.args.value.now _ c.self.view_is
    (inputs_so a.program C c.args.topic c.args.value.now topic.0 (with_items c.self.inside.scalars c.write.new.scalars).items topic.1 topic.2 topic.3 typed
    written)
