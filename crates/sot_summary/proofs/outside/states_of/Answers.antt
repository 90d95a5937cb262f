use Rattle.std.proofs.Common.{◌≡◌, ◌∙◌, ◌-◌, ◌+◌, take, drop, length, refl, sym, ap, arith}
use Rattle.std.specs.Prelude.{slice_index_or}
use Rattle.std.specs.Vec.{vec_len}
use Rattle.std.proofs.lemmas.Option.{slice_get_read}
use Rattle.sot_lang.specs.declared.tables.PlantInfo.{PlantInfo}
use Rattle.sot_summary.proofs.Points.{front_inside, point_at}
use Rattle.sot_summary.proofs.outside.states_of.Goals as goal

pub overflow_add-result : goal.overflow_add-result
overflow_add-result c =
    let plants = c.args.plants.now in
    let at = slice_get_read plants (length plants) c.args.plant c.index-plants-plant.result refl c.requires.there c.index-plants-plant.is in
    let inside = front_inside plants c.args.plant c.index-plants-plant.result at in
    let front = c.requires.fronts c.args.plant c.requires.there in
    let count : c.len.result ≡ length c.index-plants-plant.result.states.items =
    (let moved = c.len.ensures ∙ ap (λ (x : PlantInfo). vec_len x.states) (sym c.index-plants-plant.is) in
    omega (arith, moved, c.index-plants-plant.result.states.ok.0)) in
    omega (arith, inside, front, count, c.requires.size)

pub offset_bounds-states-from : goal.offset_bounds-states-from
offset_bounds-states-from c =
    let plants = c.args.plants.now in
    let at = slice_get_read plants (length plants) c.args.plant c.index-plants-plant.result refl c.requires.there c.index-plants-plant.is in
    let inside = front_inside plants c.args.plant c.index-plants-plant.result at in
    let front = c.requires.fronts c.args.plant c.requires.there in
    omega (arith, inside, front, c.requires.size)

pub slice_bounds-result-end : goal.slice_bounds-result-end
slice_bounds-result-end c =
    let plants = c.args.plants.now in
    let at = slice_get_read plants (length plants) c.args.plant c.index-plants-plant.result refl c.requires.there c.index-plants-plant.is in
    let inside = front_inside plants c.args.plant c.index-plants-plant.result at in
    let front = c.requires.fronts c.args.plant c.requires.there in
    let count : c.len.result ≡ length c.index-plants-plant.result.states.items =
    (let moved = c.len.ensures ∙ ap (λ (x : PlantInfo). vec_len x.states) (sym c.index-plants-plant.is) in
    omega (arith, moved, c.index-plants-plant.result.states.ok.0)) in
    omega (arith, inside, front, count, c.requires.size)

pub returns : goal.returns
returns c =
    let plants = c.args.plants.now in
    let from = slice_index_or c.args.fronts.now c.args.plant 0 in
    let at = slice_get_read plants (length plants) c.args.plant c.index-plants-plant.result refl c.requires.there c.index-plants-plant.is in
    let front = c.requires.fronts c.args.plant c.requires.there in
    let count : c.len.result ≡ length c.index-plants-plant.result.states.items =
    (let moved = c.len.ensures ∙ ap (λ (x : PlantInfo). vec_len x.states) (sym c.index-plants-plant.is) in
    omega (arith, moved, c.index-plants-plant.result.states.ok.0)) in
    let size : (from + c.len.result) - from ≡ length c.index-plants-plant.result.states.items = omega (arith, count) in
    ap (λ k. take k (drop from c.args.states.now)) size
    ∙ ap (λ k. take (length c.index-plants-plant.result.states.items) (drop k c.args.states.now)) front
    ∙ sym (point_at plants c.args.states.now c.args.plant c.index-plants-plant.result at)
