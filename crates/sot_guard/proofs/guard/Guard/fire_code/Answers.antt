use Rattle.std.proofs.Common.{◌≡◌, ◌<◌, ◌≤◌, [], true, length, refl, sym, ap, ◌∙◌, subst, arith}
use Rattle.std.specs.Prelude.{List}
use Rattle.std.specs.Vec.{with_items}
use Rattle.std.proofs.lemmas.List.{with_items_is}
use Rattle.std.proofs.lemmas.Option.{slice_get_within}
use Rattle.sot_lists.specs.Places.{At}
use Rattle.sot_lists.proofs.Places.{at_same, read_at, read_or}
use Rattle.sot_lang.specs.declared.act.Act.{Act}
use Rattle.sot_lang.specs.declared.tables.NodeInfo.{NodeInfo}
use Rattle.sot_lang.specs.TableRules.{IsCoded}
use Rattle.sot_world.specs.Configurations.{is_left}
use Rattle.sot_world.specs.Steps.{allowed_by}
use Rattle.sot_world.proofs.FiringSteps.{published_along}
use Rattle.sot_guard.specs.GuardView.{configuration}
use Rattle.sot_guard.proofs.Guards.{may_run}
use Rattle.sot_guard.proofs.Firing.{fires_code_so, code_step, code_guards}
use Rattle.sot_guard.proofs.Along.{fires_along, code_along, may_run_along, runs_to_along}
use Rattle.sot_guard.proofs.guard.Guard.fire_code.Goals as goal

pub run-draft-requires : goal.run-draft-requires
run-draft-requires c =
    let C = configuration c.self.inside in
    let a = c.self.inside.accepted.now in
    let g = c.self.invariant in
    let coded = subst (λ s. (info : NodeInfo) × (acts : List Act) × At s.accepted.program.nodes c.args.node info × IsCoded info acts) (sym c.self.view_is)
    c.requires.coded in
    let there = slice_get_within a.program.nodes c.args.node coded.0 coded.2 in
    let locals_there : c.args.node < length C.locals = omega (arith, there, g.sizes.locals) in
    let locals = read_or C.locals c.args.node _ [] locals_there c.index_mut-locals.ensures.value in
    may_run_along _ _ c.args.node _ _ _ _ _ _ c.typed-p.ensures.program c.deref.ensures.value c.deref-2.ensures.value locals
    (may_run a c.self.inside.trusted C g c.args.node coded.0 coded.1 coded.2 coded.3)

pub publish_if-requires-clause-few : goal.publish_if-requires-clause-few
publish_if-requires-clause-few c =
    let a = c.self.inside.accepted.now in
    let g = c.self.invariant in
    let coded = subst (λ s. (info : NodeInfo) × (acts : List Act) × At s.accepted.program.nodes c.args.node info × IsCoded info acts) (sym c.self.view_is)
    c.requires.coded in
    let there = slice_get_within a.program.nodes c.args.node coded.0 coded.2 in
    let info = read_at _ _ c.args.node _ (ap (λ t. t.nodes) (c.p.view_is ∙ c.typed-p.ensures.program)) there c.index.ensures in
    let same = at_same a.program.nodes c.args.node _ coded.0 info coded.2 in
    let writes = c.deref-5.ensures.value ∙ ap (λ x. x.writes.items) same in
    subst (λ l. length l ≤ 8) (sym writes) (g.rules.nodes c.args.node coded.0 coded.2).writes

pub publish_if-requires-clause-written : goal.publish_if-requires-clause-written
publish_if-requires-clause-written c = λ i k at_k.
    let a = c.self.inside.accepted.now in
    let g = c.self.invariant in
    let coded = subst (λ s. (info : NodeInfo) × (acts : List Act) × At s.accepted.program.nodes c.args.node info × IsCoded info acts) (sym c.self.view_is)
    c.requires.coded in
    let there = slice_get_within a.program.nodes c.args.node coded.0 coded.2 in
    let info = read_at _ _ c.args.node _ (ap (λ t. t.nodes) (c.p.view_is ∙ c.typed-p.ensures.program)) there c.index.ensures in
    let same = at_same a.program.nodes c.args.node _ coded.0 info coded.2 in
    let writes = c.deref-5.ensures.value ∙ ap (λ x. x.writes.items) same in
    subst (λ t. k < length t.scalars) (sym c.typed-p.ensures.program)
    (g.rules.typed.inside c.args.node coded.0 k coded.2 (i, subst (λ l. At l i k) writes at_k))

pub invariant_of-self : goal.invariant_of-self
invariant_of-self c =
    let C = configuration c.self.inside in
    let a = c.self.inside.accepted.now in
    let g = c.self.invariant in
    let coded = subst (λ s. (info : NodeInfo) × (acts : List Act) × At s.accepted.program.nodes c.args.node info × IsCoded info acts) (sym c.self.view_is)
    c.requires.coded in
    let there = slice_get_within a.program.nodes c.args.node coded.0 coded.2 in
    let locals_there : c.args.node < length C.locals = omega (arith, there, g.sizes.locals) in
    let locals = read_or C.locals c.args.node _ [] locals_there c.index_mut-locals.ensures.value in
    let left = subst (λ s. is_left s.at c.args.node ≡ true) (sym c.self.view_is) c.requires.left in
    let info = read_at _ _ c.args.node _ (ap (λ t. t.nodes) (c.p.view_is ∙ c.typed-p.ensures.program)) there c.index.ensures in
    let same = at_same a.program.nodes c.args.node _ coded.0 info coded.2 in
    let writes = c.deref-5.ensures.value ∙ ap (λ x. x.writes.items) same in
    let ran = runs_to_along _ _ c.args.node _ _ _ _ _ _ c.run-draft.new.locals c.run-draft.result c.typed-p.ensures.program c.deref.ensures.value
    c.deref-2.ensures.value locals c.run-draft.ensures in
    let on = c.is_enabled-enabled.ensures
    ∙ ap (λ ms. allowed_by ms c.deref-4.result.now c.args.node) (c.deref-3.ensures.value ∙ ap (λ t. t.modules) (c.p.view_is ∙ c.typed-p.ensures.program))
    ∙ ap (λ ms. allowed_by a.program.modules ms c.args.node) c.deref-4.ensures.value in
    let put = with_items_is c.self.inside.scalars c.publish_if.new.scalars (omega (arith, c.publish_if.auto.scalars, c.deref_mut.ensures.len)) in
    let published = put ∙ published_along c.is_enabled-enabled.result _ _ _ _ c.run-draft.result _ _ _ c.typed-p.ensures.program writes
    c.deref_mut.ensures.value c.publish_if.ensures in
    code_guards a c.self.inside.trusted C g c.args.node coded.0 coded.1 c.run-draft.new.locals c.run-draft.result c.is_enabled-enabled.result _ _
    (with_items c.self.inside.scalars c.publish_if.new.scalars).items coded.2 coded.3 ran left on refl refl published

pub returns-clause-fires : goal.returns-clause-fires
returns-clause-fires c =
    let C = configuration c.self.inside in
    let a = c.self.inside.accepted.now in
    let g = c.self.invariant in
    let coded = subst (λ s. (info : NodeInfo) × (acts : List Act) × At s.accepted.program.nodes c.args.node info × IsCoded info acts) (sym c.self.view_is)
    c.requires.coded in
    let there = slice_get_within a.program.nodes c.args.node coded.0 coded.2 in
    let locals_there : c.args.node < length C.locals = omega (arith, there, g.sizes.locals) in
    let locals = read_or C.locals c.args.node _ [] locals_there c.index_mut-locals.ensures.value in
    let left = subst (λ s. is_left s.at c.args.node ≡ true) (sym c.self.view_is) c.requires.left in
    let info = read_at _ _ c.args.node _ (ap (λ t. t.nodes) (c.p.view_is ∙ c.typed-p.ensures.program)) there c.index.ensures in
    let same = at_same a.program.nodes c.args.node _ coded.0 info coded.2 in
    let writes = c.deref-5.ensures.value ∙ ap (λ x. x.writes.items) same in
    let ran = runs_to_along _ _ c.args.node _ _ _ _ _ _ c.run-draft.new.locals c.run-draft.result c.typed-p.ensures.program c.deref.ensures.value
    c.deref-2.ensures.value locals c.run-draft.ensures in
    let on = c.is_enabled-enabled.ensures
    ∙ ap (λ ms. allowed_by ms c.deref-4.result.now c.args.node) (c.deref-3.ensures.value ∙ ap (λ t. t.modules) (c.p.view_is ∙ c.typed-p.ensures.program))
    ∙ ap (λ ms. allowed_by a.program.modules ms c.args.node) c.deref-4.ensures.value in
    let put = with_items_is c.self.inside.scalars c.publish_if.new.scalars (omega (arith, c.publish_if.auto.scalars, c.deref_mut.ensures.len)) in
    let published = put ∙ published_along c.is_enabled-enabled.result _ _ _ _ c.run-draft.result _ _ _ c.typed-p.ensures.program writes
    c.deref_mut.ensures.value c.publish_if.ensures in
    fires_along _ _ c.args.node _ (record { draft = c.run-draft.result; enabled = c.is_enabled-enabled.result }) c.self.view_is
    (fires_code_so a c.self.inside.trusted C g c.args.node coded.0 coded.1 c.run-draft.new.locals c.run-draft.result c.is_enabled-enabled.result _ _
    (with_items c.self.inside.scalars c.publish_if.new.scalars).items coded.2 coded.3 ran left on refl refl published)

pub returns-clause-step : goal.returns-clause-step
returns-clause-step c =
    let C = configuration c.self.inside in
    let a = c.self.inside.accepted.now in
    let g = c.self.invariant in
    let coded = subst (λ s. (info : NodeInfo) × (acts : List Act) × At s.accepted.program.nodes c.args.node info × IsCoded info acts) (sym c.self.view_is)
    c.requires.coded in
    let there = slice_get_within a.program.nodes c.args.node coded.0 coded.2 in
    let locals_there : c.args.node < length C.locals = omega (arith, there, g.sizes.locals) in
    let locals = read_or C.locals c.args.node _ [] locals_there c.index_mut-locals.ensures.value in
    let left = subst (λ s. is_left s.at c.args.node ≡ true) (sym c.self.view_is) c.requires.left in
    let info = read_at _ _ c.args.node _ (ap (λ t. t.nodes) (c.p.view_is ∙ c.typed-p.ensures.program)) there c.index.ensures in
    let same = at_same a.program.nodes c.args.node _ coded.0 info coded.2 in
    let writes = c.deref-5.ensures.value ∙ ap (λ x. x.writes.items) same in
    let ran = runs_to_along _ _ c.args.node _ _ _ _ _ _ c.run-draft.new.locals c.run-draft.result c.typed-p.ensures.program c.deref.ensures.value
    c.deref-2.ensures.value locals c.run-draft.ensures in
    let on = c.is_enabled-enabled.ensures
    ∙ ap (λ ms. allowed_by ms c.deref-4.result.now c.args.node) (c.deref-3.ensures.value ∙ ap (λ t. t.modules) (c.p.view_is ∙ c.typed-p.ensures.program))
    ∙ ap (λ ms. allowed_by a.program.modules ms c.args.node) c.deref-4.ensures.value in
    let put = with_items_is c.self.inside.scalars c.publish_if.new.scalars (omega (arith, c.publish_if.auto.scalars, c.deref_mut.ensures.len)) in
    let published = put ∙ published_along c.is_enabled-enabled.result _ _ _ _ c.run-draft.result _ _ _ c.typed-p.ensures.program writes
    c.deref_mut.ensures.value c.publish_if.ensures in
    code_along _ _ c.args.node _ c.self.view_is
    (code_step a c.self.inside.trusted C g c.args.node coded.0 coded.1 c.run-draft.new.locals c.run-draft.result c.is_enabled-enabled.result _ _
    (with_items c.self.inside.scalars c.publish_if.new.scalars).items coded.2 coded.3 ran left on refl refl published)
