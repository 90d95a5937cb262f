use Rattle.std.proofs.Common.{◌≡◌, ◌∙◌, ◌<◌, take, length, refl, sym, ap, arith}
use Rattle.std.specs.Vec.{vec_len}
use Rattle.std.proofs.lemmas.List.{length-set}
use Rattle.std.proofs.lemmas.Option.{slice_get_read}
use Rattle.sot_lang.specs.declared.tables.PlantInfo.{PlantInfo}
use Rattle.sot_board.specs.Counts.{state_count}
use Rattle.sot_world.proofs.Parts.{set_more}
use Rattle.sot_summary.proofs.Points.{front_more, front_inside}
use Rattle.sot_summary.proofs.fronts.fronts_of.Goals as goal

pub overflow_add-from : goal.overflow_add-from
overflow_add-from c =
    let plants = c.args.plants.now in
    let lt : c.loop-i.i < length plants = c.loop-i-test.true in
    let at = slice_get_read plants (length plants) c.loop-i.i c.index-plants-i.result refl lt c.index-plants-i.is in
    let inside = front_inside plants c.loop-i.i c.index-plants-i.result at in
    let count : c.len-from.result ≡ length c.index-plants-i.result.states.items =
    (let moved = c.len-from.ensures ∙ ap (λ (x : PlantInfo). vec_len x.states) (sym c.index-plants-i.is) in
    omega (arith, moved, c.index-plants-i.result.states.ok.0)) in
    omega (arith, inside, c.loop-i.invariant.front, count, c.requires.few_states)

pub loop-i-preserved : goal.loop-i-preserved
loop-i-preserved c =
    let plants = c.args.plants.now in
    let k = c.loop-i.invariant in
    let lt : c.loop-i.i < length plants = c.loop-i-test.true in
    let at = slice_get_read plants (length plants) c.loop-i.i c.index-plants-i.result refl lt c.index-plants-i.is in
    let more = front_more plants c.loop-i.i c.index-plants-i.result at in
    let count : c.len-from.result ≡ length c.index-plants-i.result.states.items =
    (let moved = c.len-from.ensures ∙ ap (λ (x : PlantInfo). vec_len x.states) (sym c.index-plants-i.is) in
    omega (arith, moved, c.index-plants-i.result.states.ok.0)) in
    let room : c.loop-i.i < length c.loop-i.fronts = omega (arith, lt, k.size, c.requires.few) in
    record {
      size = length-set c.loop-i.fronts c.loop-i.i c.loop-i.from ∙ k.size;
      front = omega (arith, more, k.front, count);
      before = set_more 0 (λ j x. x ≡ state_count (take j plants)) c.loop-i.fronts c.loop-i.i c.loop-i.from room k.front k.before;
    }
