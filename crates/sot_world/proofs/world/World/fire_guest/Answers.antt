use Rattle.std.proofs.Common.{◌≡◌, ◌<◌, ◌≤◌, true, length, take, refl, sym, ap, ◌∙◌, subst, arith}
use Rattle.std.specs.Prelude.{None}
use Rattle.std.specs.Vec.{with_items}
use Rattle.std.proofs.lemmas.List.{with_items_is}
use Rattle.std.proofs.lemmas.Option.{slice_get_within}
use Rattle.sot_lists.specs.Places.{At}
use Rattle.sot_lang.specs.declared.tables.NodeInfo.{NodeInfo}
use Rattle.sot_lists.proofs.Places.{at_same, read_at}
use Rattle.sot_world.specs.Configurations.{is_left}
use Rattle.sot_world.specs.Steps.{Guest, is_enabled}
use Rattle.sot_world.specs.StepOutcomes.{IsFiring}
use Rattle.sot_world.specs.Outcomes.{NodeFired}
use Rattle.sot_world.specs.Events.{slot_count}
use Rattle.sot_world.specs.Changes.{role_enables, IsOfModule}
use Rattle.sot_world.specs.WorldView.{configuration}
use Rattle.sot_world.proofs.RoleModes.{role_enabled, role_inside}
use Rattle.sot_world.proofs.FiringSteps.{guest_so, guest_recorded, published_along, guest_along}
use Rattle.sot_world.proofs.Stepping.{well_formed, step_kept}
use Rattle.sot_world.proofs.world.World.fire_guest.Goals as goal

pub enables-enabled-requires : goal.enables-enabled-requires
enables-enabled-requires c =
    let C = configuration c.self.inside in
    let a = c.self.inside.accepted.now in
    let kept = c.self.invariant.kept in
    let external = subst (λ s. (info : NodeInfo) × At s.accepted.program.nodes c.args.node info × (info.body ≡ None)) (sym c.self.view_is) c.requires.external
    in
    let there = slice_get_within a.program.nodes c.args.node external.0 external.1 in
    let role_there : c.args.node < length c.self.inside.roles.items = omega (arith, there, c.self.invariant.roles.each) in
    let role = c.self.invariant.roles.are c.args.node _ (read_at _ _ c.args.node _ refl role_there c.index-2.ensures) in
    subst (λ l. IsOfModule c.index-2.result.now (length l)) (sym c.deref.ensures.value)
    (role_inside a.program kept.rules.typed (well_formed a C kept) C c.args.node c.index-2.result.now kept.holds.sizes.modes role)

pub publish_if-requires-clause-few : goal.publish_if-requires-clause-few
publish_if-requires-clause-few c =
    let C = configuration c.self.inside in
    let a = c.self.inside.accepted.now in
    let kept = c.self.invariant.kept in
    let external = subst (λ s. (info : NodeInfo) × At s.accepted.program.nodes c.args.node info × (info.body ≡ None)) (sym c.self.view_is) c.requires.external
    in
    let there = slice_get_within a.program.nodes c.args.node external.0 external.1 in
    let info = read_at _ _ c.args.node _ (ap (λ t. t.nodes) (c.p.view_is ∙ c.typed-p.ensures.program)) there c.index.ensures in
    let same = at_same a.program.nodes c.args.node _ external.0 info external.1 in
    let writes = c.deref-2.ensures.value ∙ ap (λ x. x.writes.items) same in
    subst (λ l. length l ≤ 8) (sym writes) (kept.rules.nodes c.args.node external.0 external.1).writes

pub publish_if-requires-clause-written : goal.publish_if-requires-clause-written
publish_if-requires-clause-written c = λ i k at_k.
    let C = configuration c.self.inside in
    let a = c.self.inside.accepted.now in
    let kept = c.self.invariant.kept in
    let external = subst (λ s. (info : NodeInfo) × At s.accepted.program.nodes c.args.node info × (info.body ≡ None)) (sym c.self.view_is) c.requires.external
    in
    let there = slice_get_within a.program.nodes c.args.node external.0 external.1 in
    let info = read_at _ _ c.args.node _ (ap (λ t. t.nodes) (c.p.view_is ∙ c.typed-p.ensures.program)) there c.index.ensures in
    let same = at_same a.program.nodes c.args.node _ external.0 info external.1 in
    let writes = c.deref-2.ensures.value ∙ ap (λ x. x.writes.items) same in
    subst (λ t. k < length t.scalars) (sym c.typed-p.ensures.program)
    (kept.rules.typed.inside c.args.node external.0 k external.1 (i, subst (λ l. At l i k) writes at_k))

pub invariant_of-self : goal.invariant_of-self
invariant_of-self c =
    let C = configuration c.self.inside in
    let a = c.self.inside.accepted.now in
    let kept = c.self.invariant.kept in
    let external = subst (λ s. (info : NodeInfo) × At s.accepted.program.nodes c.args.node info × (info.body ≡ None)) (sym c.self.view_is) c.requires.external
    in
    let there = slice_get_within a.program.nodes c.args.node external.0 external.1 in
    let role_there : c.args.node < length c.self.inside.roles.items = omega (arith, there, c.self.invariant.roles.each) in
    let role = c.self.invariant.roles.are c.args.node _ (read_at _ _ c.args.node _ refl role_there c.index-2.ensures) in
    let on = c.enables-enabled.ensures ∙ ap (role_enables c.index-2.result.now) c.deref.ensures.value
    ∙ role_enabled a.program kept.rules.typed (well_formed a C kept) C c.args.node c.index-2.result.now role in
    let left = subst (λ s. is_left s.at c.args.node ≡ true) (sym c.self.view_is) c.requires.left in
    let info = read_at _ _ c.args.node _ (ap (λ t. t.nodes) (c.p.view_is ∙ c.typed-p.ensures.program)) there c.index.ensures in
    let same = at_same a.program.nodes c.args.node _ external.0 info external.1 in
    let writes = c.deref-2.ensures.value ∙ ap (λ x. x.writes.items) same in
    let put = with_items_is c.self.inside.scalars c.publish_if.new.scalars (omega (arith, c.publish_if.auto.scalars, c.deref_mut.ensures.len)) in
    let published = put ∙ published_along c.enables-enabled.result _ _ _ _ c.args.draft.now _ _ _ c.typed-p.ensures.program writes c.deref_mut.ensures.value
    c.publish_if.ensures in
    let count : c.len.result ≡ length external.0.writes.items = omega (arith, c.len.ensures, ap length writes, c.deref-2.ensures.len) in
    let few : length external.0.writes.items ≤ length c.args.draft.now = omega (arith, count, c.first_slots-own.ensures.there) in
    let step = guest_so a.program C c.args.node external.0 c.args.draft.now c.enables-enabled.result _
    (with_items c.self.inside.scalars c.publish_if.new.scalars).items external.1 external.2 few left on refl published in
    record {
      kept = step_kept a C kept _ (Guest c.args.node _) step kept.time;
      roles = c.self.invariant.roles;
      next = c.self.invariant.next;
      answers = c.self.invariant.answers;
      nodes = c.self.invariant.nodes;
      decisions = c.self.invariant.decisions;
    }

pub returns-clause-step : goal.returns-clause-step
returns-clause-step c =
    let C = configuration c.self.inside in
    let a = c.self.inside.accepted.now in
    let kept = c.self.invariant.kept in
    let external = subst (λ s. (info : NodeInfo) × At s.accepted.program.nodes c.args.node info × (info.body ≡ None)) (sym c.self.view_is) c.requires.external
    in
    let there = slice_get_within a.program.nodes c.args.node external.0 external.1 in
    let role_there : c.args.node < length c.self.inside.roles.items = omega (arith, there, c.self.invariant.roles.each) in
    let role = c.self.invariant.roles.are c.args.node _ (read_at _ _ c.args.node _ refl role_there c.index-2.ensures) in
    let on = c.enables-enabled.ensures ∙ ap (role_enables c.index-2.result.now) c.deref.ensures.value
    ∙ role_enabled a.program kept.rules.typed (well_formed a C kept) C c.args.node c.index-2.result.now role in
    let left = subst (λ s. is_left s.at c.args.node ≡ true) (sym c.self.view_is) c.requires.left in
    let info = read_at _ _ c.args.node _ (ap (λ t. t.nodes) (c.p.view_is ∙ c.typed-p.ensures.program)) there c.index.ensures in
    let same = at_same a.program.nodes c.args.node _ external.0 info external.1 in
    let writes = c.deref-2.ensures.value ∙ ap (λ x. x.writes.items) same in
    let put = with_items_is c.self.inside.scalars c.publish_if.new.scalars (omega (arith, c.publish_if.auto.scalars, c.deref_mut.ensures.len)) in
    let published = put ∙ published_along c.enables-enabled.result _ _ _ _ c.args.draft.now _ _ _ c.typed-p.ensures.program writes c.deref_mut.ensures.value
    c.publish_if.ensures in
    let count : c.len.result ≡ length external.0.writes.items = omega (arith, c.len.ensures, ap length writes, c.deref-2.ensures.len) in
    let few : length external.0.writes.items ≤ length c.args.draft.now = omega (arith, count, c.first_slots-own.ensures.there) in
    let step = guest_so a.program C c.args.node external.0 c.args.draft.now c.enables-enabled.result _
    (with_items c.self.inside.scalars c.publish_if.new.scalars).items external.1 external.2 few left on refl published in
    guest_along _ _ c.args.node c.args.draft.now _ c.self.view_is step

pub returns-clause-firing : goal.returns-clause-firing
returns-clause-firing c =
    let C = configuration c.self.inside in
    let a = c.self.inside.accepted.now in
    let kept = c.self.invariant.kept in
    let external = subst (λ s. (info : NodeInfo) × At s.accepted.program.nodes c.args.node info × (info.body ≡ None)) (sym c.self.view_is) c.requires.external
    in
    let there = slice_get_within a.program.nodes c.args.node external.0 external.1 in
    let role_there : c.args.node < length c.self.inside.roles.items = omega (arith, there, c.self.invariant.roles.each) in
    let role = c.self.invariant.roles.are c.args.node _ (read_at _ _ c.args.node _ refl role_there c.index-2.ensures) in
    let on = c.enables-enabled.ensures ∙ ap (role_enables c.index-2.result.now) c.deref.ensures.value
    ∙ role_enabled a.program kept.rules.typed (well_formed a C kept) C c.args.node c.index-2.result.now role in
    let info = read_at _ _ c.args.node _ (ap (λ t. t.nodes) (c.p.view_is ∙ c.typed-p.ensures.program)) there c.index.ensures in
    let same = at_same a.program.nodes c.args.node _ external.0 info external.1 in
    let writes = c.deref-2.ensures.value ∙ ap (λ x. x.writes.items) same in
    let count : c.len.result ≡ length external.0.writes.items = omega (arith, c.len.ensures, ap length writes, c.deref-2.ensures.len) in
    let few : length external.0.writes.items ≤ length c.args.draft.now = omega (arith, count, c.first_slots-own.ensures.there) in
    subst (λ s. IsFiring (record { draft = c.first_slots-own.result; enabled = c.enables-enabled.result })
    (NodeFired (take (slot_count s.accepted.program c.args.node) c.args.draft.now) (is_enabled s.accepted.program s.at c.args.node))) c.self.view_is
    (guest_recorded a.program C c.args.node external.0 c.args.draft.now c.first_slots-own.result c.enables-enabled.result c.len.result external.1 few count
    c.first_slots-own.ensures.kept on)
