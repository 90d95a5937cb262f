use Rattle.std.proofs.Common.{◌≡◌, ◌<◌, ◌≤◌, true, length, take, refl, sym, ap, ◌∙◌, subst, arith}
use Rattle.std.specs.Prelude.{None}
use Rattle.std.specs.Vec.{with_items}
use Rattle.std.proofs.lemmas.List.{with_items_is}
use Rattle.std.proofs.lemmas.Option.{slice_get_within}
use Rattle.sot_lists.specs.Places.{At}
use Rattle.sot_lists.proofs.Places.{at_same, read_at}
use Rattle.sot_lang.specs.declared.tables.NodeInfo.{NodeInfo}
use Rattle.sot_world.specs.Configurations.{is_left, locals_of}
use Rattle.sot_world.specs.Steps.{Guest, allowed_by}
use Rattle.sot_world.specs.Events.{slot_count}
use Rattle.sot_world.proofs.FiringSteps.{guest_so, published_along}
use Rattle.sot_law_observed_runs.proofs.Steps.{step_keeps}
use Rattle.sot_guard.specs.GuardView.{configuration}
use Rattle.sot_guard.proofs.Guards.{fires_guards}
use Rattle.sot_guard.proofs.Along.{guest_along}
use Rattle.sot_guard.proofs.guard.Guard.fire_guest.Goals as goal

pub publish_if-requires-clause-written : goal.publish_if-requires-clause-written
publish_if-requires-clause-written c = λ i k at_k.
    let a = c.self.inside.accepted.now in
    let g = c.self.invariant in
    let external = subst (λ s. (info : NodeInfo) × At s.accepted.program.nodes c.args.node info × (info.body ≡ None)) (sym c.self.view_is) c.requires.external
    in
    let there = slice_get_within a.program.nodes c.args.node external.0 external.1 in
    let info = read_at _ _ c.args.node _ (ap (λ t. t.nodes) (c.p.view_is ∙ c.typed-p.ensures.program)) there c.index.ensures in
    let same = at_same a.program.nodes c.args.node _ external.0 info external.1 in
    let writes = c.deref-3.ensures.value ∙ ap (λ x. x.writes.items) same in
    subst (λ t. k < length t.scalars) (sym c.typed-p.ensures.program)
    (g.rules.typed.inside c.args.node external.0 k external.1 (i, subst (λ l. At l i k) writes at_k))

pub invariant_of-self : goal.invariant_of-self
invariant_of-self c =
    let C = configuration c.self.inside in
    let a = c.self.inside.accepted.now in
    let g = c.self.invariant in
    let external = subst (λ s. (info : NodeInfo) × At s.accepted.program.nodes c.args.node info × (info.body ≡ None)) (sym c.self.view_is) c.requires.external
    in
    let there = slice_get_within a.program.nodes c.args.node external.0 external.1 in
    let info = read_at _ _ c.args.node _ (ap (λ t. t.nodes) (c.p.view_is ∙ c.typed-p.ensures.program)) there c.index.ensures in
    let same = at_same a.program.nodes c.args.node _ external.0 info external.1 in
    let writes = c.deref-3.ensures.value ∙ ap (λ x. x.writes.items) same in
    let left = subst (λ s. is_left s.at c.args.node ≡ true) (sym c.self.view_is) c.requires.left in
    let on = c.is_enabled-enabled.ensures
    ∙ ap (λ ms. allowed_by ms c.deref-2.result.now c.args.node) (c.deref.ensures.value ∙ ap (λ t. t.modules) (c.p.view_is ∙ c.typed-p.ensures.program))
    ∙ ap (λ ms. allowed_by a.program.modules ms c.args.node) c.deref-2.ensures.value in
    let put = with_items_is c.self.inside.scalars c.publish_if.new.scalars (omega (arith, c.publish_if.auto.scalars, c.deref_mut.ensures.len)) in
    let published = put ∙ published_along c.is_enabled-enabled.result _ _ _ _ c.args.draft.now _ _ _ c.typed-p.ensures.program writes c.deref_mut.ensures.value
    c.publish_if.ensures in
    let count : c.len.result ≡ length external.0.writes.items = omega (arith, c.len.ensures, ap length writes, c.deref-3.ensures.len) in
    let few : length external.0.writes.items ≤ length c.args.draft.now = omega (arith, count, c.first_slots-own.ensures.there) in
    let step = guest_so a.program C c.args.node external.0 c.args.draft.now c.is_enabled-enabled.result _
    (with_items c.self.inside.scalars c.publish_if.new.scalars).items external.1 external.2 few left on refl published in
    fires_guards a c.self.inside.trusted C g _ c.args.node step.node (locals_of C c.args.node) _ step.is step.fires (g.locals c.args.node step.node step.is)
    (λ on. step_keeps a.program a.cert g.rules g.certified C _ (Guest c.args.node _) (g.tubes on) step)

pub returns-clause-step : goal.returns-clause-step
returns-clause-step c =
    let C = configuration c.self.inside in
    let a = c.self.inside.accepted.now in
    let g = c.self.invariant in
    let external = subst (λ s. (info : NodeInfo) × At s.accepted.program.nodes c.args.node info × (info.body ≡ None)) (sym c.self.view_is) c.requires.external
    in
    let there = slice_get_within a.program.nodes c.args.node external.0 external.1 in
    let info = read_at _ _ c.args.node _ (ap (λ t. t.nodes) (c.p.view_is ∙ c.typed-p.ensures.program)) there c.index.ensures in
    let same = at_same a.program.nodes c.args.node _ external.0 info external.1 in
    let writes = c.deref-3.ensures.value ∙ ap (λ x. x.writes.items) same in
    let left = subst (λ s. is_left s.at c.args.node ≡ true) (sym c.self.view_is) c.requires.left in
    let on = c.is_enabled-enabled.ensures
    ∙ ap (λ ms. allowed_by ms c.deref-2.result.now c.args.node) (c.deref.ensures.value ∙ ap (λ t. t.modules) (c.p.view_is ∙ c.typed-p.ensures.program))
    ∙ ap (λ ms. allowed_by a.program.modules ms c.args.node) c.deref-2.ensures.value in
    let put = with_items_is c.self.inside.scalars c.publish_if.new.scalars (omega (arith, c.publish_if.auto.scalars, c.deref_mut.ensures.len)) in
    let published = put ∙ published_along c.is_enabled-enabled.result _ _ _ _ c.args.draft.now _ _ _ c.typed-p.ensures.program writes c.deref_mut.ensures.value
    c.publish_if.ensures in
    let count : c.len.result ≡ length external.0.writes.items = omega (arith, c.len.ensures, ap length writes, c.deref-3.ensures.len) in
    let few : length external.0.writes.items ≤ length c.args.draft.now = omega (arith, count, c.first_slots-own.ensures.there) in
    let step = guest_so a.program C c.args.node external.0 c.args.draft.now c.is_enabled-enabled.result _
    (with_items c.self.inside.scalars c.publish_if.new.scalars).items external.1 external.2 few left on refl published in
    guest_along _ _ c.args.node (λ s. take (slot_count s.accepted.program c.args.node) c.args.draft.now) _ c.self.view_is step
