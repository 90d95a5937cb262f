use Rattle.std.proofs.Common.{◌≡◌, ◌<◌, ◌≤◌, List, [], true, length, refl, sym, ap, ◌∙◌, subst, arith}
use Rattle.std.specs.Prelude.{slice_set}
use Rattle.std.specs.Vec.{with_items}
use Rattle.std.proofs.lemmas.List.{with_items_is}
use Rattle.std.proofs.lemmas.Option.{slice_get_within}
use Rattle.sot_lists.specs.Places.{At}
use Rattle.sot_lang.specs.declared.act.Act.{Act}
use Rattle.sot_lang.specs.declared.tables.NodeInfo.{NodeInfo}
use Rattle.sot_lang.specs.TableRules.{IsCoded}
use Rattle.sot_lists.proofs.Places.{at_same, read_at, read_or}
use Rattle.sot_code.specs.declared.fired.Fired.{Fired}
use Rattle.sot_code.specs.Recorded.{left_by}
use Rattle.sot_world.specs.Configurations.{is_left}
use Rattle.sot_world.specs.Steps.{Code}
use Rattle.sot_world.specs.StepOutcomes.{IsFiring}
use Rattle.sot_world.specs.Outcomes.{Recorded, RecordsCode}
use Rattle.sot_world.specs.Changes.{role_enables, IsOfModule, IsRun}
use Rattle.sot_world.specs.WorldView.{configuration}
use Rattle.sot_world.proofs.Safety.{code_runs}
use Rattle.sot_world.proofs.RoleModes.{role_enabled, role_inside}
use Rattle.sot_world.proofs.FiringSteps.{code_so, code_recorded, published_along, run_along}
use Rattle.sot_world.proofs.Running.{runnable, has_run, world_runs, left_ok, left_none}
use Rattle.sot_world.proofs.Stepping.{well_formed, step_kept, step_along}
use Rattle.sot_world.proofs.world.World.fire_code.Goals as goal

pub seen_by-seen-requires : goal.seen_by-seen-requires
seen_by-seen-requires c =
    let runs = world_runs _ _ _ _ _ _ _ c.self.invariant c.self.view_is c.requires.coded c.typed-p.ensures.program c.deref.ensures.value c.deref-2.ensures.value
    c.index_mut-locals.ensures.value in
    (runs.node, runs.is, runs.there)

pub run_node_over-requires-clause-run : goal.run_node_over-requires-clause-run
run_node_over-requires-clause-run c =
    let runs = world_runs _ _ _ _ _ _ _ c.self.invariant c.self.view_is c.requires.coded c.typed-p.ensures.program c.deref.ensures.value c.deref-2.ensures.value
    c.index_mut-locals.ensures.value in
    runnable _ _ _ _ _ _ runs (c.seen_by-seen.ensures runs.node runs.is)

pub unreachable-requires : goal.unreachable-requires
unreachable-requires c =
    let runs = world_runs _ _ _ _ _ _ _ c.self.invariant c.self.view_is c.requires.coded c.typed-p.ensures.program c.deref.ensures.value c.deref-2.ensures.value
    c.index_mut-locals.ensures.value in
    let left_over = left_by c.run_node_over.result c.run_node_over.new.locals c.run_node_over.new.draft in
    let ended = has_run _ _ _ _ _ _ runs (c.seen_by-seen.ensures runs.node runs.is) left_over c.run_node_over.ensures in
    let none = left_none c.run_node_over.result c.run_node_over.new.locals c.run_node_over.new.draft ended.0 ended.1 in
    let both = sym c.if-is_err.true ∙ c.is_err.ensures.value ∙ none in
    cc

pub enables-enabled-requires : goal.enables-enabled-requires
enables-enabled-requires c =
    let C = configuration c.self.inside in
    let a = c.self.inside.accepted.now in
    let kept = c.self.invariant.kept in
    let coded = subst (λ s. (info : NodeInfo) × (acts : List Act) × At s.accepted.program.nodes c.args.node info × IsCoded info acts) (sym c.self.view_is)
    c.requires.coded in
    let there = slice_get_within a.program.nodes c.args.node coded.0 coded.2 in
    let role_there : c.args.node < length c.self.inside.roles.items = omega (arith, there, c.self.invariant.roles.each) in
    let role = c.self.invariant.roles.are c.args.node _ (read_at _ _ c.args.node _ refl role_there c.index.ensures) in
    subst (λ l. IsOfModule c.index.result.now (length l)) (sym c.deref-3.ensures.value)
    (role_inside a.program kept.rules.typed (well_formed a C kept) C c.args.node c.index.result.now kept.holds.sizes.modes role)

pub publish_if-requires-clause-few : goal.publish_if-requires-clause-few
publish_if-requires-clause-few c =
    let C = configuration c.self.inside in
    let a = c.self.inside.accepted.now in
    let kept = c.self.invariant.kept in
    let coded = subst (λ s. (info : NodeInfo) × (acts : List Act) × At s.accepted.program.nodes c.args.node info × IsCoded info acts) (sym c.self.view_is)
    c.requires.coded in
    let there = slice_get_within a.program.nodes c.args.node coded.0 coded.2 in
    let info = read_at _ _ c.args.node _ (ap (λ t. t.nodes) (c.p.view_is ∙ c.typed-p.ensures.program)) there c.index-2.ensures in
    let same = at_same a.program.nodes c.args.node _ coded.0 info coded.2 in
    let writes = c.deref-4.ensures.value ∙ ap (λ x. x.writes.items) same in
    subst (λ l. length l ≤ 8) (sym writes) (kept.rules.nodes c.args.node coded.0 coded.2).writes

pub publish_if-requires-clause-written : goal.publish_if-requires-clause-written
publish_if-requires-clause-written c = λ i k at_k.
    let C = configuration c.self.inside in
    let a = c.self.inside.accepted.now in
    let kept = c.self.invariant.kept in
    let coded = subst (λ s. (info : NodeInfo) × (acts : List Act) × At s.accepted.program.nodes c.args.node info × IsCoded info acts) (sym c.self.view_is)
    c.requires.coded in
    let there = slice_get_within a.program.nodes c.args.node coded.0 coded.2 in
    let info = read_at _ _ c.args.node _ (ap (λ t. t.nodes) (c.p.view_is ∙ c.typed-p.ensures.program)) there c.index-2.ensures in
    let same = at_same a.program.nodes c.args.node _ coded.0 info coded.2 in
    let writes = c.deref-4.ensures.value ∙ ap (λ x. x.writes.items) same in
    subst (λ t. k < length t.scalars) (sym c.typed-p.ensures.program)
    (kept.rules.typed.inside c.args.node coded.0 k coded.2 (i, subst (λ l. At l i k) writes at_k))

pub invariant_of-self : goal.invariant_of-self
invariant_of-self c =
    let C = configuration c.self.inside in
    let a = c.self.inside.accepted.now in
    let kept = c.self.invariant.kept in
    let coded = subst (λ s. (info : NodeInfo) × (acts : List Act) × At s.accepted.program.nodes c.args.node info × IsCoded info acts) (sym c.self.view_is)
    c.requires.coded in
    let there = slice_get_within a.program.nodes c.args.node coded.0 coded.2 in
    let role_there : c.args.node < length c.self.inside.roles.items = omega (arith, there, c.self.invariant.roles.each) in
    let role = c.self.invariant.roles.are c.args.node _ (read_at _ _ c.args.node _ refl role_there c.index.ensures) in
    let on = c.enables-enabled.ensures ∙ ap (role_enables c.index.result.now) c.deref-3.ensures.value
    ∙ role_enabled a.program kept.rules.typed (well_formed a C kept) C c.args.node c.index.result.now role in
    let left = subst (λ s. is_left s.at c.args.node ≡ true) (sym c.self.view_is) c.requires.left in
    let info = read_at _ _ c.args.node _ (ap (λ t. t.nodes) (c.p.view_is ∙ c.typed-p.ensures.program)) there c.index-2.ensures in
    let same = at_same a.program.nodes c.args.node _ coded.0 info coded.2 in
    let writes = c.deref-4.ensures.value ∙ ap (λ x. x.writes.items) same in
    let runs = world_runs _ _ _ _ _ _ _ c.self.invariant c.self.view_is c.requires.coded c.typed-p.ensures.program c.deref.ensures.value c.deref-2.ensures.value
    c.index_mut-locals.ensures.value in
    let left_over = left_by c.run_node_over.result c.run_node_over.new.locals c.run_node_over.new.draft in
    let ended = has_run _ _ _ _ _ _ runs (c.seen_by-seen.ensures runs.node runs.is) left_over c.run_node_over.ensures in
    let fired : Fired = record { locals = c.run_node_over.new.locals; draft = c.run_node_over.new.draft } in
    let own = subst (IsRun c.typed-p.result.now c.args.node c.deref.result.now c.deref-2.result.now c.index_mut-locals.result.now)
    (left_ok c.run_node_over.result fired.locals fired.draft ended.0 ended.1) ended.2 in
    let locals_there : c.args.node < length C.locals = omega (arith, there, kept.holds.sizes.locals) in
    let locals = read_or C.locals c.args.node _ [] locals_there c.index_mut-locals.ensures.value in
    let run = code_runs a.program a.cert.jitter kept.rules.typed (well_formed a C kept) C c.args.node coded.0 coded.1 kept.holds coded.2 coded.3 in
    let told = (run_along _ _ c.args.node _ _ _ _ _ _ fired c.typed-p.ensures.program c.deref.ensures.value c.deref-2.ensures.value locals own) coded.0 coded.1
    run.0 coded.2 coded.3 run.1 in
    let put = with_items_is c.self.inside.scalars c.publish_if.new.scalars (omega (arith, c.publish_if.auto.scalars, c.deref_mut.ensures.len)) in
    let published = put ∙ published_along c.enables-enabled.result _ _ _ _ fired.draft _ _ _ c.typed-p.ensures.program writes c.deref_mut.ensures.value
    c.publish_if.ensures in
    let step = code_so a.program C c.args.node coded.0 coded.1 run.0 fired.draft c.enables-enabled.result _ _
    (with_items c.self.inside.scalars c.publish_if.new.scalars).items coded.2 coded.3 run.1 told.1 left on refl (ap (slice_set C.locals c.args.node) told.0)
    published in
    record {
      kept = step_kept a C kept _ (Code c.args.node) step kept.time;
      roles = c.self.invariant.roles;
      next = c.self.invariant.next;
      answers = c.self.invariant.answers;
      nodes = c.self.invariant.nodes;
      decisions = c.self.invariant.decisions;
    }

pub returns-clause-step : goal.returns-clause-step
returns-clause-step c =
    let C = configuration c.self.inside in
    let a = c.self.inside.accepted.now in
    let kept = c.self.invariant.kept in
    let coded = subst (λ s. (info : NodeInfo) × (acts : List Act) × At s.accepted.program.nodes c.args.node info × IsCoded info acts) (sym c.self.view_is)
    c.requires.coded in
    let there = slice_get_within a.program.nodes c.args.node coded.0 coded.2 in
    let role_there : c.args.node < length c.self.inside.roles.items = omega (arith, there, c.self.invariant.roles.each) in
    let role = c.self.invariant.roles.are c.args.node _ (read_at _ _ c.args.node _ refl role_there c.index.ensures) in
    let on = c.enables-enabled.ensures ∙ ap (role_enables c.index.result.now) c.deref-3.ensures.value
    ∙ role_enabled a.program kept.rules.typed (well_formed a C kept) C c.args.node c.index.result.now role in
    let left = subst (λ s. is_left s.at c.args.node ≡ true) (sym c.self.view_is) c.requires.left in
    let info = read_at _ _ c.args.node _ (ap (λ t. t.nodes) (c.p.view_is ∙ c.typed-p.ensures.program)) there c.index-2.ensures in
    let same = at_same a.program.nodes c.args.node _ coded.0 info coded.2 in
    let writes = c.deref-4.ensures.value ∙ ap (λ x. x.writes.items) same in
    let runs = world_runs _ _ _ _ _ _ _ c.self.invariant c.self.view_is c.requires.coded c.typed-p.ensures.program c.deref.ensures.value c.deref-2.ensures.value
    c.index_mut-locals.ensures.value in
    let left_over = left_by c.run_node_over.result c.run_node_over.new.locals c.run_node_over.new.draft in
    let ended = has_run _ _ _ _ _ _ runs (c.seen_by-seen.ensures runs.node runs.is) left_over c.run_node_over.ensures in
    let fired : Fired = record { locals = c.run_node_over.new.locals; draft = c.run_node_over.new.draft } in
    let own = subst (IsRun c.typed-p.result.now c.args.node c.deref.result.now c.deref-2.result.now c.index_mut-locals.result.now)
    (left_ok c.run_node_over.result fired.locals fired.draft ended.0 ended.1) ended.2 in
    let locals_there : c.args.node < length C.locals = omega (arith, there, kept.holds.sizes.locals) in
    let locals = read_or C.locals c.args.node _ [] locals_there c.index_mut-locals.ensures.value in
    let run = code_runs a.program a.cert.jitter kept.rules.typed (well_formed a C kept) C c.args.node coded.0 coded.1 kept.holds coded.2 coded.3 in
    let told = (run_along _ _ c.args.node _ _ _ _ _ _ fired c.typed-p.ensures.program c.deref.ensures.value c.deref-2.ensures.value locals own) coded.0 coded.1
    run.0 coded.2 coded.3 run.1 in
    let put = with_items_is c.self.inside.scalars c.publish_if.new.scalars (omega (arith, c.publish_if.auto.scalars, c.deref_mut.ensures.len)) in
    let published = put ∙ published_along c.enables-enabled.result _ _ _ _ fired.draft _ _ _ c.typed-p.ensures.program writes c.deref_mut.ensures.value
    c.publish_if.ensures in
    step_along _ _ (Code c.args.node) _ c.self.view_is (code_so a.program C c.args.node coded.0 coded.1 run.0 fired.draft c.enables-enabled.result _ _
    (with_items c.self.inside.scalars c.publish_if.new.scalars).items coded.2 coded.3 run.1 told.1 left on refl (ap (slice_set C.locals c.args.node) told.0)
    published)

pub returns-clause-firing : goal.returns-clause-firing
returns-clause-firing c =
    let C = configuration c.self.inside in
    let a = c.self.inside.accepted.now in
    let kept = c.self.invariant.kept in
    let coded = subst (λ s. (info : NodeInfo) × (acts : List Act) × At s.accepted.program.nodes c.args.node info × IsCoded info acts) (sym c.self.view_is)
    c.requires.coded in
    let there = slice_get_within a.program.nodes c.args.node coded.0 coded.2 in
    let role_there : c.args.node < length c.self.inside.roles.items = omega (arith, there, c.self.invariant.roles.each) in
    let role = c.self.invariant.roles.are c.args.node _ (read_at _ _ c.args.node _ refl role_there c.index.ensures) in
    let on = c.enables-enabled.ensures ∙ ap (role_enables c.index.result.now) c.deref-3.ensures.value
    ∙ role_enabled a.program kept.rules.typed (well_formed a C kept) C c.args.node c.index.result.now role in
    let runs = world_runs _ _ _ _ _ _ _ c.self.invariant c.self.view_is c.requires.coded c.typed-p.ensures.program c.deref.ensures.value c.deref-2.ensures.value
    c.index_mut-locals.ensures.value in
    let left_over = left_by c.run_node_over.result c.run_node_over.new.locals c.run_node_over.new.draft in
    let ended = has_run _ _ _ _ _ _ runs (c.seen_by-seen.ensures runs.node runs.is) left_over c.run_node_over.ensures in
    let fired : Fired = record { locals = c.run_node_over.new.locals; draft = c.run_node_over.new.draft } in
    let own = subst (IsRun c.typed-p.result.now c.args.node c.deref.result.now c.deref-2.result.now c.index_mut-locals.result.now)
    (left_ok c.run_node_over.result fired.locals fired.draft ended.0 ended.1) ended.2 in
    let locals_there : c.args.node < length C.locals = omega (arith, there, kept.holds.sizes.locals) in
    let locals = read_or C.locals c.args.node _ [] locals_there c.index_mut-locals.ensures.value in
    let run = code_runs a.program a.cert.jitter kept.rules.typed (well_formed a C kept) C c.args.node coded.0 coded.1 kept.holds coded.2 coded.3 in
    let told = (run_along _ _ c.args.node _ _ _ _ _ _ fired c.typed-p.ensures.program c.deref.ensures.value c.deref-2.ensures.value locals own) coded.0 coded.1
    run.0 coded.2 coded.3 run.1 in
    subst (λ s. (r : Recorded) × RecordsCode s.accepted.program c.args.node s.at r
    × IsFiring (record { draft = fired.draft; enabled = c.enables-enabled.result }) r) c.self.view_is
    (code_recorded a.program C c.args.node coded.0 coded.1 run.0 fired.draft c.enables-enabled.result coded.2 coded.3 run.1 told.1 on)
