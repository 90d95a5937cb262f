use Rattle.std.proofs.Common.{◌<◌, ◌++◌, [], map, pos, length, slice_index_or, ap, ◌∙◌, subst, arith}
use Rattle.sot_lists.proofs.Places.{read_at, read_or}
use Rattle.sot_box.specs.Boxes.{point_box}
use Rattle.sot_lang.specs.TableRules.{MeetsTableRules}
use Rattle.sot_lang.specs.Ticks.{joined}
use Rattle.sot_guard.proofs.Boxes.{inputs_there, inputs_few, sees_there, sees_few, may_tick_box, box_told, no_trap}
use Rattle.sot_guard.proofs.outside.next_box.Goals as goal

pub put_commands-requires-clause-there : goal.put_commands-requires-clause-there
put_commands-requires-clause-there c =
    let rules = subst MeetsTableRules c.p.view_is c.p.invariant in
    let at = read_at _ _ c.args.plant _ (ap (λ t. t.plants) c.p.view_is) c.requires.plant c.index-info.ensures in
    inputs_there c.args.p.now rules c.args.scalars.now c.args.points.now c.requires.scalars c.requires.points c.args.plant _ at c.deref.result.now
    c.deref.ensures.value

pub put_commands-requires-clause-room : goal.put_commands-requires-clause-room
put_commands-requires-clause-room c =
    let rules = subst MeetsTableRules c.p.view_is c.p.invariant in
    let at = read_at _ _ c.args.plant _ (ap (λ t. t.plants) c.p.view_is) c.requires.plant c.index-info.ensures in
    let few = inputs_few c.args.p.now rules c.args.scalars.now c.args.points.now c.requires.scalars c.requires.points c.args.plant _ at c.deref.result.now
    c.deref.ensures.value in
    let none = ap length c.none-held.ensures in
    omega (arith, few, none)

pub put_seen-requires-clause-there : goal.put_seen-requires-clause-there
put_seen-requires-clause-there c =
    let rules = subst MeetsTableRules c.p.view_is c.p.invariant in
    let at = read_at _ _ c.args.plant _ (ap (λ t. t.plants) c.p.view_is) c.requires.plant c.index-info.ensures in
    sees_there c.args.p.now rules c.args.scalars.now c.args.points.now c.requires.scalars c.requires.points c.args.plant _ at c.deref-2.result.now
    c.deref-2.ensures.value

pub put_seen-requires-clause-few : goal.put_seen-requires-clause-few
put_seen-requires-clause-few c =
    let rules = subst MeetsTableRules c.p.view_is c.p.invariant in
    let at = read_at _ _ c.args.plant _ (ap (λ t. t.plants) c.p.view_is) c.requires.plant c.index-info.ensures in
    sees_few c.args.p.now rules c.args.scalars.now c.args.points.now c.requires.scalars c.requires.points c.args.plant _ at c.deref-2.result.now
    c.deref-2.ensures.value

pub iv_plant-requires : goal.iv_plant-requires
iv_plant-requires c =
    let rules = subst MeetsTableRules c.p.view_is c.p.invariant in
    let at = read_at _ _ c.args.plant _ (ap (λ t. t.plants) c.p.view_is) c.requires.plant c.index-info.ensures in
    let below : c.args.plant < length c.args.points.now = omega (arith, c.requires.plant, c.requires.points.each) in
    let here = c.box_at-here.ensures ∙ ap point_box (read_or c.args.points.now c.args.plant _ [] below c.index-points-plant.is) in
    let held = c.as_slice.ensures.value ∙ c.put_commands.ensures
    ∙ ap (λ l. l ++ point_box (map (λ k. slice_index_or c.args.scalars.now k (pos 0)) c.deref.result.now)) c.none-held.ensures
    ∙ ap (λ l. point_box (map (λ k. slice_index_or c.args.scalars.now k (pos 0)) l)) c.deref.ensures.value in
    let seen = c.as_slice-2.ensures.value ∙ c.put_seen.ensures
    ∙ ap (λ l. l ++ point_box (joined (map (λ k. slice_index_or c.args.points.now k []) c.deref-2.result.now))) c.none-seen.ensures
    ∙ ap (λ l. point_box (joined (map (λ k. slice_index_or c.args.points.now k []) l))) c.deref-2.ensures.value in
    may_tick_box c.args.p.now rules c.args.scalars.now c.args.points.now c.requires.scalars c.requires.points c.args.plant _ at _ _ _ here held seen

pub unreachable-requires : goal.unreachable-requires
unreachable-requires c =
    let rules = subst MeetsTableRules c.p.view_is c.p.invariant in
    let at = read_at _ _ c.args.plant _ (ap (λ t. t.plants) c.p.view_is) c.requires.plant c.index-info.ensures in
    let below : c.args.plant < length c.args.points.now = omega (arith, c.requires.plant, c.requires.points.each) in
    let here = c.box_at-here.ensures ∙ ap point_box (read_or c.args.points.now c.args.plant _ [] below c.index-points-plant.is) in
    let held = c.as_slice.ensures.value ∙ c.put_commands.ensures
    ∙ ap (λ l. l ++ point_box (map (λ k. slice_index_or c.args.scalars.now k (pos 0)) c.deref.result.now)) c.none-held.ensures
    ∙ ap (λ l. point_box (map (λ k. slice_index_or c.args.scalars.now k (pos 0)) l)) c.deref.ensures.value in
    let seen = c.as_slice-2.ensures.value ∙ c.put_seen.ensures
    ∙ ap (λ l. l ++ point_box (joined (map (λ k. slice_index_or c.args.points.now k []) c.deref-2.result.now))) c.none-seen.ensures
    ∙ ap (λ l. point_box (joined (map (λ k. slice_index_or c.args.points.now k []) l))) c.deref-2.ensures.value in
    no_trap c.args.p.now rules c.args.scalars.now c.args.points.now c.requires.scalars c.requires.points c.args.plant _ at _ _ _ here held seen _ _ c.in-Err.is
    c.iv_plant.ensures c.requires.boxes

pub returns : goal.returns
returns c =
    let rules = subst MeetsTableRules c.p.view_is c.p.invariant in
    let at = read_at _ _ c.args.plant _ (ap (λ t. t.plants) c.p.view_is) c.requires.plant c.index-info.ensures in
    let below : c.args.plant < length c.args.points.now = omega (arith, c.requires.plant, c.requires.points.each) in
    let here = c.box_at-here.ensures ∙ ap point_box (read_or c.args.points.now c.args.plant _ [] below c.index-points-plant.is) in
    let held = c.as_slice.ensures.value ∙ c.put_commands.ensures
    ∙ ap (λ l. l ++ point_box (map (λ k. slice_index_or c.args.scalars.now k (pos 0)) c.deref.result.now)) c.none-held.ensures
    ∙ ap (λ l. point_box (map (λ k. slice_index_or c.args.scalars.now k (pos 0)) l)) c.deref.ensures.value in
    let seen = c.as_slice-2.ensures.value ∙ c.put_seen.ensures
    ∙ ap (λ l. l ++ point_box (joined (map (λ k. slice_index_or c.args.points.now k []) c.deref-2.result.now))) c.none-seen.ensures
    ∙ ap (λ l. point_box (joined (map (λ k. slice_index_or c.args.points.now k []) l))) c.deref-2.ensures.value in
    box_told c.args.p.now rules c.args.scalars.now c.args.points.now c.requires.scalars c.requires.points c.args.plant _ at _ _ _ here held seen _ _ c.in-Ok.is
    c.iv_plant.ensures
