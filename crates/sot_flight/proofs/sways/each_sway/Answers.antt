use Rattle.std.proofs.Common.{◌≡◌, ◌<◌, ◌+◌, List, [], get_or, length, map, drop, refl, sym, ap, subst, ◌∙◌, arith}
use Rattle.std.proofs.lemmas.Option.{slice_get_read}
use Rattle.serde_json.specs.View.{members_view}
use Rattle.sot_lang.specs.Tables.{Tables}
use Rattle.sot_flight.specs.declared.sway.Sway.{Sway}
use Rattle.sot_flight.specs.Plans as plans
use Rattle.sot_flight.specs.ListForms.{for_each_after}
use Rattle.sot_flight.specs.FlightView.{sway_of}
use Rattle.sot_flight.specs.FlightFormat.{sway_at}
use Rattle.sot_flight.proofs.Fitting.{narrow_noise}
use Rattle.sot_flight.proofs.ForEach.{kept_on, found_end, found_all}
use Rattle.sot_flight.proofs.sways.each_sway.Goals as goal

pub sway_where-requires : goal.sway_where-requires
sway_where-requires c =
    let items = c.deref-plant-items.ensures.value in
    let lt : c.loop-plant.plant-index < length c.p.inside.plants.items = omega (arith, c.loop-plant-test.true, ap length items) in
    narrow_noise _ c.p.invariant c.loop-plant.plant-index _
    (slice_get_read c.p.inside.plants.items _ c.loop-plant.plant-index _ refl lt
    (c.plant-item.is ∙ ap (λ xs. get_or xs c.loop-plant.plant-index c.plant-item.result) items))

pub returns-in-Err : goal.returns-in-Err
returns-in-Err c =
    let l = c.loop-plant in
    let e : c.deref-plant-items.result.now ≡ c.args.p.now.plants = c.deref-plant-items.ensures.value ∙ ap (λ (t : Tables). t.plants) c.p.view_is in
    let lt : c.loop-plant.plant-index < length c.args.p.now.plants = omega (arith, c.loop-plant-test.true, ap length e) in
    found_end (λ done. sway_at (members_view c.args.object.now.entries)) (map sway_of l.found.items) c.args.p.now.plants l.plant-index c.plant-item.result
    c.in-Err.fail _ lt (c.plant-item.is ∙ ap (λ xs. get_or xs c.loop-plant.plant-index c.plant-item.result) e) c.in-Err.ensures l.invariant

pub loop-plant-preserved : goal.loop-plant-preserved
loop-plant-preserved c =
    let l = c.loop-plant in
    let f = λ (done : List plans.Sway). sway_at (members_view c.args.object.now.entries) in
    let plants = c.args.p.now.plants in
    let e : c.deref-plant-items.result.now ≡ plants = c.deref-plant-items.ensures.value ∙ ap (λ (t : Tables). t.plants) c.p.view_is in
    let lt : c.loop-plant.plant-index < length plants = omega (arith, c.loop-plant-test.true, ap length e) in
    let on = kept_on sway_of f l.found.items plants l.plant-index c.plant-item.result c.in-Ok.sway _ lt
    (c.plant-item.is ∙ ap (λ xs. get_or xs c.loop-plant.plant-index c.plant-item.result) e) c.in-Ok.ensures l.invariant in
    subst (λ (sways : List Sway). for_each_after f (map sway_of sways) (drop (c.loop-plant.plant-index + 1) plants) ≡ for_each_after f [] plants)
    (sym c.in_ok-push-in-Ok.ensures.items) on

pub returns : goal.returns
returns c =
    let l = c.loop-plant in
    let e : c.deref-plant-items.result.now ≡ c.args.p.now.plants = c.deref-plant-items.ensures.value ∙ ap (λ (t : Tables). t.plants) c.p.view_is in
    found_all (λ done. sway_at (members_view c.args.object.now.entries)) (map sway_of l.found.items) c.args.p.now.plants l.plant-index _
    (omega (arith, c.loop-plant-test.false, ap length e)) l.invariant
