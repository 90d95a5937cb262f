use Rattle.std.proofs.Common.{arith, ◌≡◌, ◌+◌, length, get_or, ap, sym, ◌∙◌, subst}
use Rattle.sot_lists.specs.Places.{At}
use Rattle.sot_lang.specs.Tables.{Tables}
use Rattle.sot_lang.specs.declared.tables.PlantInfo.{PlantInfo}
use Rattle.sot_lang.specs.Ticks.{values}
use Rattle.sot_lang.specs.OwnerNames.{plant_truths, seen_width}
use Rattle.sot_lang.specs.TermRules.{TermsFit}
use Rattle.sot_lang.specs.TableRules.{MeetsTableRules}
use Rattle.sot_lang.proofs.Owners.{plant_is, plant_places}
use Rattle.sot_code.proofs.plant.plant_next_over.Goals as goal

pub point_of-requires-clause-some : goal.point_of-requires-clause-some
point_of-requires-clause-some c =
    let p = c.args.p.now in
    let info = c.index-info.result.now in
    let is : info ≡ get_or p.plants c.args.plant info = c.index-info.ensures ∙ ap (λ (t : Tables). get_or t.plants c.args.plant info) c.p.view_is in
    let here : At p.plants c.args.plant info = subst (λ x. At p.plants c.args.plant x) (plant_is p c.args.plant c.requires.plant info c.requires.is is)
    c.requires.is in
    let r = (subst MeetsTableRules c.p.view_is c.p.invariant).plants c.args.plant info here in
    let same = ap length c.deref.ensures.value in
    omega (arith, r.some_state, r.one_next, same)

pub point_of-requires-clause-few : goal.point_of-requires-clause-few
point_of-requires-clause-few c =
    let p = c.args.p.now in
    let info = c.index-info.result.now in
    let is : info ≡ get_or p.plants c.args.plant info = c.index-info.ensures ∙ ap (λ (t : Tables). get_or t.plants c.args.plant info) c.p.view_is in
    let here : At p.plants c.args.plant info = subst (λ x. At p.plants c.args.plant x) (plant_is p c.args.plant c.requires.plant info c.requires.is is)
    c.requires.is in
    let r = (subst MeetsTableRules c.p.view_is c.p.invariant).plants c.args.plant info here in
    let same = ap length c.deref.ensures.value in
    omega (arith, r.states, r.one_next, same)

pub point_of-requires-clause-places : goal.point_of-requires-clause-places
point_of-requires-clause-places c =
    let p = c.args.p.now in
    let info = c.index-info.result.now in
    let is : info ≡ get_or p.plants c.args.plant info = c.index-info.ensures ∙ ap (λ (t : Tables). get_or t.plants c.args.plant info) c.p.view_is in
    let same = plant_is p c.args.plant c.requires.plant info c.requires.is is in
    let here : At p.plants c.args.plant info = subst (λ x. At p.plants c.args.plant x) same c.requires.is in
    let r = (subst MeetsTableRules c.p.view_is c.p.invariant).plants c.args.plant info here in
    let names = c.requires.names ∙ ap (λ (x : PlantInfo). length x.states.items + length x.inputs.items + seen_width p.plants x.sees.items
    + length x.noise.items) same in
    plant_places p info c.deref.result.now (length c.args.numbers.now) (subst (TermsFit (plant_truths p info)) (sym c.deref.ensures.value) r.next) names

pub returns : goal.returns
returns c plant at =
    let p = c.args.p.now in
    let info = c.index-info.result.now in
    let is : info ≡ get_or p.plants c.args.plant info = c.index-info.ensures ∙ ap (λ (t : Tables). get_or t.plants c.args.plant info) c.p.view_is in
    let theirs : info ≡ plant = sym (plant_is p c.args.plant plant info at is) in
    c.point_of.ensures ∙ ap (λ ts. values ts c.args.numbers.now) (c.deref.ensures.value ∙ ap (λ x. x.next.items) theirs)
