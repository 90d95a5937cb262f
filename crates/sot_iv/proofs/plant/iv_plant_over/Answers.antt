use Rattle.std.proofs.Common.{arith, ◌≡◌, length, get_or, ap, sym, ◌∙◌, subst}
use Rattle.sot_box.specs.Sides.{AreOrdered}
use Rattle.sot_lists.specs.Places.{At}
use Rattle.sot_lang.specs.Tables.{Tables}
use Rattle.sot_lang.specs.TermPlaces.{HavePlaces}
use Rattle.sot_lang.specs.TableRules.{MeetsTableRules}
use Rattle.sot_iv.specs.Evaluation.{term_intervals}
use Rattle.sot_iv.specs.TermIntervals.{AreTermIntervals}
use Rattle.sot_iv.proofs.PlantNames.{over_places}
use Rattle.sot_lang.proofs.Owners.{plant_is}
use Rattle.sot_iv.proofs.Terms.{terms_are}
use Rattle.sot_iv.proofs.plant.iv_plant_over.Goals as goal

pub box_of-requires-clause-some : goal.box_of-requires-clause-some
box_of-requires-clause-some c =
    let tables = subst MeetsTableRules c.p.view_is c.p.invariant in
    let p = c.args.p.now in
    let info = c.index-info.result.now in
    let is : info ≡ get_or p.plants c.args.plant info = c.index-info.ensures ∙ ap (λ (t : Tables). get_or t.plants c.args.plant info) c.p.view_is in
    let same = plant_is p c.args.plant c.requires.may.plant info c.requires.may.is is in
    let here : At p.plants c.args.plant info = subst (λ x. At p.plants c.args.plant x) same c.requires.may.is in
    let r = tables.plants c.args.plant info here in
    let d = ap length c.deref.ensures.value in
    omega (arith, r.some_state, r.one_next, d)

pub box_of-requires-clause-few : goal.box_of-requires-clause-few
box_of-requires-clause-few c =
    let tables = subst MeetsTableRules c.p.view_is c.p.invariant in
    let p = c.args.p.now in
    let info = c.index-info.result.now in
    let is : info ≡ get_or p.plants c.args.plant info = c.index-info.ensures ∙ ap (λ (t : Tables). get_or t.plants c.args.plant info) c.p.view_is in
    let same = plant_is p c.args.plant c.requires.may.plant info c.requires.may.is is in
    let here : At p.plants c.args.plant info = subst (λ x. At p.plants c.args.plant x) same c.requires.may.is in
    let r = tables.plants c.args.plant info here in
    let d = ap length c.deref.ensures.value in
    omega (arith, r.states, r.one_next, d)

pub box_of-requires-clause-places : goal.box_of-requires-clause-places
box_of-requires-clause-places c =
    let tables = subst MeetsTableRules c.p.view_is c.p.invariant in
    let p = c.args.p.now in
    let info = c.index-info.result.now in
    let is : info ≡ get_or p.plants c.args.plant info = c.index-info.ensures ∙ ap (λ (t : Tables). get_or t.plants c.args.plant info) c.p.view_is in
    let same = plant_is p c.args.plant c.requires.may.plant info c.requires.may.is is in
    let places : HavePlaces (length c.args.names.now) info.next.items = over_places p c.args.plant c.args.names.now info tables c.requires same in
    let at_names : HavePlaces (length c.as_slice.result.now) info.next.items =
    subst (λ l. HavePlaces (length l) info.next.items) (sym c.as_slice.ensures.value) places in
    subst (HavePlaces (length c.as_slice.result.now)) (sym c.deref.ensures.value) at_names

pub returns : goal.returns
returns c plant at =
    let tables = subst MeetsTableRules c.p.view_is c.p.invariant in
    let p = c.args.p.now in
    let info = c.index-info.result.now in
    let is : info ≡ get_or p.plants c.args.plant info = c.index-info.ensures ∙ ap (λ (t : Tables). get_or t.plants c.args.plant info) c.p.view_is in
    let same = plant_is p c.args.plant c.requires.may.plant info c.requires.may.is is in
    let theirs : info ≡ plant = sym (plant_is p c.args.plant plant info at is) in
    let names = c.args.names.now in
    let places = over_places p c.args.plant names info tables c.requires same in
    let e : c.box_of.result ≡ term_intervals info.next.items names =
    c.box_of.ensures ∙ ap (λ l. term_intervals c.deref.result.now l) c.as_slice.ensures.value ∙ ap (λ ts. term_intervals ts names) c.deref.ensures.value in
    let are = terms_are (length names) info.next.items names (subst AreOrdered c.as_slice.ensures.value c.as_slice.ensures.ordered) places in
    subst (λ x. AreTermIntervals x.next.items names c.box_of.result) theirs (subst (AreTermIntervals info.next.items names) (sym e) are)
