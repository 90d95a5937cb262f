use Rattle.std.specs.Vec.{with_items}
use Rattle.std.proofs.lemmas.List.{with_items_is}
use Rattle.std.proofs.Common.{◌+◌, suc, ◌≡◌, ◌<◌, ℕ, ℤ, List, [], map, length, slice_index_or, sym, ap, ◌∙◌, subst, arith}
use Rattle.sot_lists.specs.Places.{At}
use Rattle.sot_lang.specs.declared.tables.PlantInfo.{PlantInfo}
use Rattle.sot_lang.specs.Tables.{Tables}
use Rattle.sot_world.specs.Steps.{Tick, MayTick}
use Rattle.sot_world.specs.Events.{cut, IsInBounds}
use Rattle.sot_world.specs.Changes.{ArePoints, MayMove}
use Rattle.sot_world.specs.WorldView.{configuration}
use Rattle.sot_world.proofs.Stepping.{are_points, step_kept}
use Rattle.sot_world.specs.Schedules.{after}
use Rattle.sot_world.proofs.TickSteps.{may_move, ticks_so, moved_along, ticks_along}
use Rattle.sot_world.proofs.Schedules.{all_after, periods_below, left_due}
use Rattle.sot_world.proofs.world.World.tick.Goals as goal

pub move_all-requires-clause-points : goal.move_all-requires-clause-points
move_all-requires-clause-points c =
    subst (λ t. ArePoints t c.deref-2.result.now) (sym c.typed-p.ensures.program)
    (subst (ArePoints c.self.inside.accepted.now.program) (sym c.deref-2.ensures.value)
    (are_points c.self.inside.accepted.now (configuration c.self.inside) c.self.invariant.kept))

pub move_all-requires-clause-moves : goal.move_all-requires-clause-moves
move_all-requires-clause-moves c =
    let C = configuration c.self.inside in
    let a = c.self.inside.accepted.now in
    let kept = c.self.invariant.kept in
    let may = subst (λ s. MayTick s.accepted.program s.accepted.cert.jitter s.at) (sym c.self.view_is) c.requires.may in
    let bounded = subst (λ s. IsInBounds s.accepted.program.plants c.args.noise.now) (sym c.self.view_is) c.requires.bounded in
    let AllMove : Tables → List ℤ → List (List ℤ) → Type 0 = λ t xs ps. (k : ℕ) (plant : PlantInfo) → At t.plants k plant
    → MayMove t k xs ps (slice_index_or (cut t.plants c.args.noise.now) k []) in
    subst (λ t. AllMove t c.deref.result.now c.deref-2.result.now) (sym c.typed-p.ensures.program)
    (subst (λ xs. AllMove a.program xs c.deref-2.result.now) (sym c.deref.ensures.value)
    (subst (AllMove a.program C.scalars) (sym c.deref-2.ensures.value) (may_move a C kept c.args.noise.now may bounded)))

pub leave-requires-clause-periods : goal.leave-requires-clause-periods
leave-requires-clause-periods c =
    periods_below (λ x. x.period) (λ x. x.offset) _ (c.self.inside.time + 1) 1000 _ _ c.deref_mut-2.ensures.value
    (λ n node at. (c.self.invariant.kept.rules.nodes n node at).period) c.self.invariant.nodes

pub leave-requires-2-clause-periods : goal.leave-requires-2-clause-periods
leave-requires-2-clause-periods c =
    periods_below (λ x. x.period) (λ x. x.offset) _ (c.self.inside.time + 1) 1000 _ _ c.deref_mut-4.ensures.value
    (λ m info at. (c.self.invariant.kept.rules.modules m info at).period) c.self.invariant.decisions

pub invariant_of-self : goal.invariant_of-self
invariant_of-self c =
    let C = configuration c.self.inside in
    let a = c.self.inside.accepted.now in
    let kept = c.self.invariant.kept in
    let w = c.self.inside in
    let may = subst (λ s. MayTick s.accepted.program s.accepted.cert.jitter s.at) (sym c.self.view_is) c.requires.may in
    let bounded = subst (λ s. IsInBounds s.accepted.program.plants c.args.noise.now) (sym c.self.view_is) c.requires.bounded in
    let program = c.typed-p.ensures.program in
    let left_is = with_items_is w.left c.leave.new.left (omega (arith, c.leave.auto.left, c.deref_mut-3.ensures.len)) in
    let left_dm_is = with_items_is w.left_dm c.leave-2.new.left (omega (arith, c.leave-2.auto.left, c.deref_mut-5.ensures.len)) in
    let next_is = with_items_is w.next c.move_all.new.next (omega (arith, c.move_all.auto.next, c.deref_mut.ensures.len)) in
    let points_is = ap (λ v. v.items) c.swap.ensures.x_after ∙ next_is in
    let nodes = left_due (λ x. x.period) (λ x. x.offset) a.program.nodes (w.time + 1) _ _ _ _ _ _ c.deref_mut-2.ensures.value c.deref_mut-3.ensures.value
    left_is c.self.invariant.nodes c.leave.ensures.left in
    let modules = left_due (λ x. x.period) (λ x. x.offset) a.program.modules (w.time + 1) _ _ _ _ _ _ c.deref_mut-4.ensures.value c.deref_mut-5.ensures.value
    left_dm_is c.self.invariant.decisions c.leave-2.ensures.left in
    let moved = moved_along _ _ _ _ _ _ c.args.noise.now _ _ program c.deref.ensures.value c.deref-2.ensures.value points_is c.move_all.ensures in
    let l : length (with_items w.left c.leave.new.left).items ≡ length a.program.nodes =
    omega (arith, ap length left_is, c.leave.auto.left, ap length c.deref_mut-3.ensures.value, kept.holds.sizes.left) in
    let d : length (with_items w.left_dm c.leave-2.new.left).items ≡ length a.program.modules =
    omega (arith, ap length left_dm_is, c.leave-2.auto.left, ap length c.deref_mut-5.ensures.value, kept.holds.sizes.left_dm) in
    let q : length c.swap.new.x.items ≡ length a.program.plants =
    omega (arith, ap length points_is, c.move_all.auto.next, ap length c.deref_mut.ensures.value, c.self.invariant.next) in
    let t : w.time + 1 ≡ suc w.time = omega arith in
    let step = ticks_so a C kept c.args.noise.now may bounded (w.time + 1) (with_items w.left c.leave.new.left).items
    (with_items w.left_dm c.leave-2.new.left).items c.swap.new.x.items t l d q nodes modules moved in
    let scheduled_is = with_items_is w.node_schedules c.leave.new.schedules (omega (arith, c.leave.auto.schedules, c.deref_mut-2.ensures.len)) in
    let scheduled_dm_is = with_items_is w.decision_schedules c.leave-2.new.schedules (omega (arith, c.leave-2.auto.schedules, c.deref_mut-4.ensures.len)) in
    let before : w.time < 100000 = subst (λ s. s.at.time < 100000) (sym c.self.view_is) c.requires.time in
    record {
      kept = step_kept a C kept _ (Tick (cut a.program.plants c.args.noise.now)) step (omega (arith, before));
      roles = c.self.invariant.roles;
      next = ap (λ v. length v.items) c.swap.ensures.y_after ∙ kept.holds.sizes.points;
      answers = c.self.invariant.answers;
      nodes =
          all_after (λ x. x.period) (λ x. x.offset) a.program.nodes (w.time + 1) w.node_schedules.items _
          (scheduled_is ∙ c.leave.ensures.after ∙ ap (map (after (w.time + 1))) c.deref_mut-2.ensures.value) kept.rules.typed.node_times c.self.invariant.nodes;
      decisions =
          all_after (λ x. x.period) (λ x. x.offset) a.program.modules (w.time + 1) w.decision_schedules.items _
          (scheduled_dm_is ∙ c.leave-2.ensures.after ∙ ap (map (after (w.time + 1))) c.deref_mut-4.ensures.value) kept.rules.typed.module_times
          c.self.invariant.decisions;
    }

pub returns-clause-step : goal.returns-clause-step
returns-clause-step c =
    let C = configuration c.self.inside in
    let a = c.self.inside.accepted.now in
    let kept = c.self.invariant.kept in
    let w = c.self.inside in
    let may = subst (λ s. MayTick s.accepted.program s.accepted.cert.jitter s.at) (sym c.self.view_is) c.requires.may in
    let bounded = subst (λ s. IsInBounds s.accepted.program.plants c.args.noise.now) (sym c.self.view_is) c.requires.bounded in
    let program = c.typed-p.ensures.program in
    let left_is = with_items_is w.left c.leave.new.left (omega (arith, c.leave.auto.left, c.deref_mut-3.ensures.len)) in
    let left_dm_is = with_items_is w.left_dm c.leave-2.new.left (omega (arith, c.leave-2.auto.left, c.deref_mut-5.ensures.len)) in
    let next_is = with_items_is w.next c.move_all.new.next (omega (arith, c.move_all.auto.next, c.deref_mut.ensures.len)) in
    let points_is = ap (λ v. v.items) c.swap.ensures.x_after ∙ next_is in
    let nodes = left_due (λ x. x.period) (λ x. x.offset) a.program.nodes (w.time + 1) _ _ _ _ _ _ c.deref_mut-2.ensures.value c.deref_mut-3.ensures.value
    left_is c.self.invariant.nodes c.leave.ensures.left in
    let modules = left_due (λ x. x.period) (λ x. x.offset) a.program.modules (w.time + 1) _ _ _ _ _ _ c.deref_mut-4.ensures.value c.deref_mut-5.ensures.value
    left_dm_is c.self.invariant.decisions c.leave-2.ensures.left in
    let moved = moved_along _ _ _ _ _ _ c.args.noise.now _ _ program c.deref.ensures.value c.deref-2.ensures.value points_is c.move_all.ensures in
    let l : length (with_items w.left c.leave.new.left).items ≡ length a.program.nodes =
    omega (arith, ap length left_is, c.leave.auto.left, ap length c.deref_mut-3.ensures.value, kept.holds.sizes.left) in
    let d : length (with_items w.left_dm c.leave-2.new.left).items ≡ length a.program.modules =
    omega (arith, ap length left_dm_is, c.leave-2.auto.left, ap length c.deref_mut-5.ensures.value, kept.holds.sizes.left_dm) in
    let q : length c.swap.new.x.items ≡ length a.program.plants =
    omega (arith, ap length points_is, c.move_all.auto.next, ap length c.deref_mut.ensures.value, c.self.invariant.next) in
    let t : w.time + 1 ≡ suc w.time = omega arith in
    let step = ticks_so a C kept c.args.noise.now may bounded (w.time + 1) (with_items w.left c.leave.new.left).items
    (with_items w.left_dm c.leave-2.new.left).items c.swap.new.x.items t l d q nodes modules moved in
    ticks_along _ _ c.args.noise.now _ c.self.view_is step
