use Rattle.std.proofs.Common.{◌≡◌, ◌∙◌, ◌+◌, ◌<◌, [], take, drop, length, refl, sym, ap, arith}
use Rattle.std.specs.Prelude.{slice_index_or}
use Rattle.std.specs.Vec.{vec_len}
use Rattle.std.proofs.lemmas.List.{length-set, length-drop}
use Rattle.std.proofs.lemmas.Option.{slice_get_read, slice_get_within, get_or_from_slice_get}
use Rattle.sot_lists.proofs.Places.{same_list}
use Rattle.sot_lang.specs.declared.tables.PlantInfo.{PlantInfo}
use Rattle.sot_world.proofs.Parts.{set_more}
use Rattle.sot_summary.specs.Outside.{points_in}
use Rattle.sot_history_state.proofs.Writing.{states_from, cut_step, points_count}
use Rattle.sot_history_state.proofs.points.put_points.Goals as goal

pub loop-k-preserved : goal.loop-k-preserved
loop-k-preserved c =
    let plants = c.args.plants.now in
    let states = c.args.states.now in
    let k = c.loop-k.k in
    let inv = c.loop-k.invariant in
    let plant = c.index-plants-k.result in
    let below : k < length plants = omega (arith, c.loop-k-test.true) in
    let at = slice_get_read plants (length plants) k plant refl below c.index-plants-k.is in
    let step = cut_step plants states c.loop-k.rest.now k plant at inv.parts in
    let count : c.len.result ≡ length plant.states.items =
    (let moved = c.len.ensures ∙ ap (λ (x : PlantInfo). vec_len x.states) (sym c.index-plants-k.is) in omega (arith, moved, plant.states.ok.0)) in
    let more = c.split_at-in-loop-k.ensures.back ∙ ap (λ n. drop n c.loop-k.rest.now) count in
    let point = c.in-Some.ensures ∙ c.split_at-in-loop-k.ensures.front ∙ ap (λ n. take n c.loop-k.rest.now) count ∙ sym step.0 in
    let room : k < length c.loop-k.points = omega (arith, below, inv.size) in
    record {
      size = length-set c.loop-k.points k c.in-Some.point ∙ inv.size;
      count =
          (let n = ap length more in let m = length-drop (length plant.states.items) c.loop-k.rest.now in let f = states_from plants k plant at in
          let i = inv.count in
          omega (arith, n, m, f, i));
      parts = step.1 ∙ ap (points_in (drop (k + 1) plants)) (sym more);
      done = set_more [] (λ j x. x ≡ slice_index_or (points_in plants states) j []) c.loop-k.points k c.in-Some.point room point inv.done;
    }

pub returns : goal.returns
returns c =
    let plants = c.args.plants.now in
    let all = points_in plants c.args.states.now in
    let inv = c.loop-k.invariant in
    same_list c.loop-k.points all (inv.size ∙ sym (points_count plants c.args.states.now))
    (λ m x y here there.
    (let lt = slice_get_within c.loop-k.points m x here in
    sym (get_or_from_slice_get c.loop-k.points m x [] here) ∙ inv.done m (omega (arith, lt, inv.size, c.loop-k-test.false))
    ∙ get_or_from_slice_get all m y [] there))
