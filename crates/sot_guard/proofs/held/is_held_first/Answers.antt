use Rattle.std.proofs.Common.{◌≤◌, ◌++◌, sym, [], map, pos, length, slice_index_or, ap, ◌∙◌, subst, arith}
use Rattle.sot_lists.proofs.Places.{read_at, read_or}
use Rattle.sot_box.specs.Boxes.{point_box}
use Rattle.sot_lang.specs.TableRules.{MeetsTableRules}
use Rattle.sot_lists.specs.Places.{At}
use Rattle.sot_guard.proofs.HeldTests.{plant_below, point_below, follows, jitter_few, are_commands, told_at}
use Rattle.sot_guard.proofs.held.is_held_first.Goals as goal

pub put_first_commands-requires-clause-there : goal.put_first_commands-requires-clause-there
put_first_commands-requires-clause-there c =
    let rules = subst MeetsTableRules c.p.view_is c.p.invariant in
    let at = read_at _ _ c.args.«module» _ (ap (λ t. t.modules) c.p.view_is) c.requires.there c.index.ensures in
    let below = plant_below c.args.p.now rules c.args.jitter c.args.points.now c.requires.may c.args.«module» c.index.result.now at in
    let at_p = read_at _ _ c.index.result.now.plant _ (ap (λ t. t.plants) c.p.view_is) below c.index-2.ensures in
    λ i k at_i.
    let below_k = rules.typed.inputs_are c.index.result.now.plant c.index-2.result.now k at_p (i, subst (λ l. At l i k) c.deref.ensures.value at_i) in
    let many = ap length (c.deref-2.ensures.value ∙ ap (λ t. t.scalars) c.p.view_is) in
    omega (arith, below_k, many)

pub put_first_commands-requires-clause-room : goal.put_first_commands-requires-clause-room
put_first_commands-requires-clause-room c =
    let rules = subst MeetsTableRules c.p.view_is c.p.invariant in
    let at = read_at _ _ c.args.«module» _ (ap (λ t. t.modules) c.p.view_is) c.requires.there c.index.ensures in
    let below = plant_below c.args.p.now rules c.args.jitter c.args.points.now c.requires.may c.args.«module» c.index.result.now at in
    let at_p = read_at _ _ c.index.result.now.plant _ (ap (λ t. t.plants) c.p.view_is) below c.index-2.ensures in
    let few : length c.deref.result.now ≤ 8 = subst (λ l. length l ≤ 8) (sym c.deref.ensures.value) (rules.plants c.index.result.now.plant _ at_p).inputs in
    let none = ap length c.none-held.ensures in
    omega (arith, few, none)

pub bounds-points-plant : goal.bounds-points-plant
bounds-points-plant c =
    let rules = subst MeetsTableRules c.p.view_is c.p.invariant in
    let at = read_at _ _ c.args.«module» _ (ap (λ t. t.modules) c.p.view_is) c.requires.there c.index.ensures in
    point_below c.args.p.now rules c.args.jitter c.args.points.now c.requires.may c.args.«module» c.index.result.now at

pub is_held-requires-clause-follow : goal.is_held-requires-clause-follow
is_held-requires-clause-follow c =
    let rules = subst MeetsTableRules c.p.view_is c.p.invariant in
    let at = read_at _ _ c.args.«module» _ (ap (λ t. t.modules) c.p.view_is) c.requires.there c.index.ensures in
    let there = point_below c.args.p.now rules c.args.jitter c.args.points.now c.requires.may c.args.«module» c.index.result.now at in
    let point = read_or c.args.points.now c.index.result.now.plant c.index-points-plant.result [] there c.index-points-plant.is in
    follows c.args.p.now rules c.args.jitter c.args.points.now c.requires.may c.args.«module» c.index.result.now at c.index-points-plant.result point

pub is_held-requires-clause-commands : goal.is_held-requires-clause-commands
is_held-requires-clause-commands c =
    let rules = subst MeetsTableRules c.p.view_is c.p.invariant in
    let at = read_at _ _ c.args.«module» _ (ap (λ t. t.modules) c.p.view_is) c.requires.there c.index.ensures in
    let below = plant_below c.args.p.now rules c.args.jitter c.args.points.now c.requires.may c.args.«module» c.index.result.now at in
    let at_p = read_at _ _ c.index.result.now.plant _ (ap (λ t. t.plants) c.p.view_is) below c.index-2.ensures in
    let held = c.as_slice.ensures.value ∙ c.put_first_commands.ensures
    ∙ ap (λ l. l ++ point_box (map (λ k. slice_index_or (map (λ i. i.init) c.deref-2.result.now) k (pos 0)) c.deref.result.now)) c.none-held.ensures
    ∙ ap (λ l. point_box (map (λ k. slice_index_or (map (λ i. i.init) c.deref-2.result.now) k (pos 0)) l)) c.deref.ensures.value ∙ ap (λ xs. point_box (map (λ k. slice_index_or (map (λ i. i.init) xs) k (pos 0)) c.index-2.result.now.inputs.items))
    (c.deref-2.ensures.value ∙ ap (λ t. t.scalars) c.p.view_is) in
    are_commands c.args.p.now rules c.args.jitter c.args.points.now c.requires.may c.args.«module» c.index.result.now at _ at_p
    (map (λ i. i.init) c.args.p.now.scalars) c.as_slice.result.now held

pub is_held-requires-clause-jitter : goal.is_held-requires-clause-jitter
is_held-requires-clause-jitter c =
    let rules = subst MeetsTableRules c.p.view_is c.p.invariant in
    let at = read_at _ _ c.args.«module» _ (ap (λ t. t.modules) c.p.view_is) c.requires.there c.index.ensures in
    jitter_few c.args.p.now rules c.args.jitter c.args.points.now c.requires.may c.args.«module» c.index.result.now at

pub returns : goal.returns
returns c =
    let rules = subst MeetsTableRules c.p.view_is c.p.invariant in
    let at = read_at _ _ c.args.«module» _ (ap (λ t. t.modules) c.p.view_is) c.requires.there c.index.ensures in
    let below = plant_below c.args.p.now rules c.args.jitter c.args.points.now c.requires.may c.args.«module» c.index.result.now at in
    let at_p = read_at _ _ c.index.result.now.plant _ (ap (λ t. t.plants) c.p.view_is) below c.index-2.ensures in
    let there = point_below c.args.p.now rules c.args.jitter c.args.points.now c.requires.may c.args.«module» c.index.result.now at in
    let point = read_or c.args.points.now c.index.result.now.plant c.index-points-plant.result [] there c.index-points-plant.is in
    let held = c.as_slice.ensures.value ∙ c.put_first_commands.ensures
    ∙ ap (λ l. l ++ point_box (map (λ k. slice_index_or (map (λ i. i.init) c.deref-2.result.now) k (pos 0)) c.deref.result.now)) c.none-held.ensures
    ∙ ap (λ l. point_box (map (λ k. slice_index_or (map (λ i. i.init) c.deref-2.result.now) k (pos 0)) l)) c.deref.ensures.value ∙ ap (λ xs. point_box (map (λ k. slice_index_or (map (λ i. i.init) xs) k (pos 0)) c.index-2.result.now.inputs.items))
    (c.deref-2.ensures.value ∙ ap (λ t. t.scalars) c.p.view_is) in
    told_at c.args.p.now rules c.args.jitter c.args.points.now c.requires.may c.args.«module» c.index.result.now at _ at_p (map (λ i. i.init) c.args.p.now.scalars)
    c.as_slice.result.now held c.args.time c.index-points-plant.result c.is_held.result point c.is_held.ensures
