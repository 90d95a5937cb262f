use Rattle.std.proofs.Common.{◌≡◌, ◌+◌, ◌++◌, ◌<◌, [], length, map, take, pos, slice_index_or, sym, ap, ap₂, ◌∙◌, arith, length-append}
use Rattle.std.proofs.lemmas.List.{length-map}
use Rattle.std.proofs.lemmas.Option.{slice_get_within}
use Rattle.sot_lang.specs.Ticks.{next_state, values, joined}
use Rattle.sot_lists.proofs.Places.{at_same, read_at}
use Rattle.sot_world.specs.Changes.{held_of, seen_of}
use Rattle.sot_world.proofs.Starting.{read_list}
use Rattle.sot_world.proofs.Parts.{seen_length}
use Rattle.sot_world.proofs.tick.next_point.Goals as goal

pub plant_next_over-requires : goal.plant_next_over-requires
plant_next_over-requires c =
    let m = c.requires.moves in
    let below = slice_get_within _ _ _ m.is in
    let at = read_at _ _ c.args.plant _ (ap (λ t. t.plants) c.p.view_is) below c.index-info.ensures in
    let same = at_same c.args.p.now.plants c.args.plant _ m.plant at m.is in
    let lt : c.args.plant < length c.args.points.now = omega (arith, below, c.requires.points.each) in
    let point = read_list c.args.points.now c.args.plant _ lt c.index-points-plant.is in
    let states : c.len-states.result ≡ 0 + length c.index-points-plant.result = omega (arith, c.len-states.ensures.value) in
    let front = ap (λ n. take n c.put_point.new.numbers) states ∙ c.put_point.ensures.front ∙ point in
    let count = c.len.ensures ∙ sym c.deref.ensures.len in
    let inputs = ap (λ n. take (c.len-states.result + n) c.put_inputs.new.numbers) count ∙ c.put_inputs.ensures.front
    ∙ ap₂ (λ l x. l ++ map (λ k. slice_index_or c.args.scalars.now k (pos 0)) x) front (c.deref.ensures.value ∙ ap (λ x. x.inputs.items) same) in
    let sees = c.put_seen-seen.ensures.front
    ∙ ap₂ (λ l x. l ++ joined (map (λ k. slice_index_or c.args.points.now k []) x)) inputs (c.deref-2.ensures.value ∙ ap (λ x. x.sees.items) same) in
    let names = c.split_at.ensures.front ∙ c.put.ensures.front ∙ ap (λ l. l ++ c.args.noise.now) sees in
    let s = slice_index_or c.args.points.now c.args.plant [] in
    let h = held_of m.plant c.args.scalars.now in
    let v = seen_of m.plant c.args.points.now in
    let w = c.args.noise.now in
    let wide = c.requires.points.widths c.args.plant m.plant m.is in
    let held = length-map m.plant.inputs.items (λ k. slice_index_or c.args.scalars.now k (pos 0)) in
    let seen = seen_length c.args.p.now.plants c.args.points.now m.plant.sees.items c.requires.points.each c.requires.points.widths m.sees in
    record {
      plant = m.plant;
      is = m.is;
      names = omega (arith, ap length names, length-append (s ++ h ++ v) w, length-append (s ++ h) v, length-append s h, wide, held, seen, m.noise_are);
    }

pub unreachable-requires : goal.unreachable-requires
unfolding next_state
unreachable-requires c =
    let m = c.requires.moves in
    let below = slice_get_within _ _ _ m.is in
    let at = read_at _ _ c.args.plant _ (ap (λ t. t.plants) c.p.view_is) below c.index-info.ensures in
    let same = at_same c.args.p.now.plants c.args.plant _ m.plant at m.is in
    let lt : c.args.plant < length c.args.points.now = omega (arith, below, c.requires.points.each) in
    let point = read_list c.args.points.now c.args.plant _ lt c.index-points-plant.is in
    let states : c.len-states.result ≡ 0 + length c.index-points-plant.result = omega (arith, c.len-states.ensures.value) in
    let front = ap (λ n. take n c.put_point.new.numbers) states ∙ c.put_point.ensures.front ∙ point in
    let count = c.len.ensures ∙ sym c.deref.ensures.len in
    let inputs = ap (λ n. take (c.len-states.result + n) c.put_inputs.new.numbers) count ∙ c.put_inputs.ensures.front
    ∙ ap₂ (λ l x. l ++ map (λ k. slice_index_or c.args.scalars.now k (pos 0)) x) front (c.deref.ensures.value ∙ ap (λ x. x.inputs.items) same) in
    let sees = c.put_seen-seen.ensures.front
    ∙ ap₂ (λ l x. l ++ joined (map (λ k. slice_index_or c.args.points.now k []) x)) inputs (c.deref-2.ensures.value ∙ ap (λ x. x.sees.items) same) in
    let names = c.split_at.ensures.front ∙ c.put.ensures.front ∙ ap (λ l. l ++ c.args.noise.now) sees in
    let e = sym c.in-Err.is ∙ c.plant_next_over.ensures m.plant m.is ∙ ap (values m.plant.next.items) names ∙ m.moves in
    cc

pub returns-clause-moved : goal.returns-clause-moved
unfolding next_state
returns-clause-moved c = λ plant at_p.
    let m = c.requires.moves in
    let below = slice_get_within _ _ _ m.is in
    let at = read_at _ _ c.args.plant _ (ap (λ t. t.plants) c.p.view_is) below c.index-info.ensures in
    let same = at_same c.args.p.now.plants c.args.plant _ plant at at_p in
    let lt : c.args.plant < length c.args.points.now = omega (arith, below, c.requires.points.each) in
    let point = read_list c.args.points.now c.args.plant _ lt c.index-points-plant.is in
    let states : c.len-states.result ≡ 0 + length c.index-points-plant.result = omega (arith, c.len-states.ensures.value) in
    let front = ap (λ n. take n c.put_point.new.numbers) states ∙ c.put_point.ensures.front ∙ point in
    let count = c.len.ensures ∙ sym c.deref.ensures.len in
    let inputs = ap (λ n. take (c.len-states.result + n) c.put_inputs.new.numbers) count ∙ c.put_inputs.ensures.front
    ∙ ap₂ (λ l x. l ++ map (λ k. slice_index_or c.args.scalars.now k (pos 0)) x) front (c.deref.ensures.value ∙ ap (λ x. x.inputs.items) same) in
    let sees = c.put_seen-seen.ensures.front
    ∙ ap₂ (λ l x. l ++ joined (map (λ k. slice_index_or c.args.points.now k []) x)) inputs (c.deref-2.ensures.value ∙ ap (λ x. x.sees.items) same) in
    let names = c.split_at.ensures.front ∙ c.put.ensures.front ∙ ap (λ l. l ++ c.args.noise.now) sees in
    sym (sym c.in-Ok.is ∙ c.plant_next_over.ensures plant at_p ∙ ap (values plant.next.items) names)
