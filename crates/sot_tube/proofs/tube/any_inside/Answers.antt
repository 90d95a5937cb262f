use Rattle.std.proofs.Common.{◌≡◌, ◌<◌, ◌++◌, length, map, get_or, sym, ap, ◌∙◌, subst}
use Rattle.sot_lang.specs.Tables.{Tables}
use Rattle.sot_lists.specs.Places.{Has}
use Rattle.sot_lang.specs.Ranges.{range_of, input_ranges}
use Rattle.sot_lang.specs.TableRules.{MeetsTableRules}
use Rattle.sot_tube.proofs.Follows.{inputs_below, are_commands, any_answers}
use Rattle.sot_tube.proofs.tube.any_inside.Goals as goal

pub put_types-requires-clause-inside : goal.put_types-requires-clause-inside
put_types-requires-clause-inside c k has =
    let p = c.args.p.now in
    let rules' : MeetsTableRules p = subst MeetsTableRules c.p.view_is c.p.invariant in
    let info = c.index-info.result.now in
    let info_is : info ≡ get_or p.modules c.args.module info = c.index-info.ensures ∙ ap (λ (t : Tables). get_or t.modules c.args.module info) c.p.view_is in
    let plant = c.index-plant.result.now in
    let plant_is : plant ≡ get_or p.plants info.plant plant = c.index-plant.ensures ∙ ap (λ (t : Tables). get_or t.plants info.plant plant) c.p.view_is in
    let scalars : c.deref.result.now ≡ p.scalars = c.deref.ensures.value ∙ ap (λ (t : Tables). t.scalars) c.p.view_is in
    subst (λ l. k < length l) (sym scalars) (inputs_below p rules' c.args.module c.args.b.now c.requires info info_is plant plant_is k
    (subst (λ l. Has l k) c.deref-2.ensures.value has))

pub held_inside-requires-clause-commands : goal.held_inside-requires-clause-commands
held_inside-requires-clause-commands c =
    let p = c.args.p.now in
    let rules' : MeetsTableRules p = subst MeetsTableRules c.p.view_is c.p.invariant in
    let info = c.index-info.result.now in
    let info_is : info ≡ get_or p.modules c.args.module info = c.index-info.ensures ∙ ap (λ (t : Tables). get_or t.modules c.args.module info) c.p.view_is in
    let plant = c.index-plant.result.now in
    let plant_is : plant ≡ get_or p.plants info.plant plant = c.index-plant.ensures ∙ ap (λ (t : Tables). get_or t.plants info.plant plant) c.p.view_is in
    let scalars : c.deref.result.now ≡ p.scalars = c.deref.ensures.value ∙ ap (λ (t : Tables). t.scalars) c.p.view_is in
    let types : c.as_slice.result.now ≡ input_ranges p plant =
    c.as_slice.ensures.value ∙ c.put_types.ensures ∙ ap (λ l. l ++ map (range_of c.deref.result.now) c.deref-2.result.now) c.none-types.ensures
    ∙ ap (λ l. map (range_of c.deref.result.now) l) c.deref-2.ensures.value ∙ ap (λ l. map (range_of l) plant.inputs.items) scalars in
    are_commands p rules' c.args.module c.args.b.now c.requires info info_is plant plant_is c.as_slice.result.now types

pub returns : goal.returns
returns c =
    let p = c.args.p.now in
    let rules' : MeetsTableRules p = subst MeetsTableRules c.p.view_is c.p.invariant in
    let info = c.index-info.result.now in
    let info_is : info ≡ get_or p.modules c.args.module info = c.index-info.ensures ∙ ap (λ (t : Tables). get_or t.modules c.args.module info) c.p.view_is in
    let plant = c.index-plant.result.now in
    let plant_is : plant ≡ get_or p.plants info.plant plant = c.index-plant.ensures ∙ ap (λ (t : Tables). get_or t.plants info.plant plant) c.p.view_is in
    let scalars : c.deref.result.now ≡ p.scalars = c.deref.ensures.value ∙ ap (λ (t : Tables). t.scalars) c.p.view_is in
    let types : c.as_slice.result.now ≡ input_ranges p plant =
    c.as_slice.ensures.value ∙ c.put_types.ensures ∙ ap (λ l. l ++ map (range_of c.deref.result.now) c.deref-2.result.now) c.none-types.ensures
    ∙ ap (λ l. map (range_of c.deref.result.now) l) c.deref-2.ensures.value ∙ ap (λ l. map (range_of l) plant.inputs.items) scalars in
    any_answers p rules' c.args.module c.args.b.now c.requires info info_is plant plant_is c.as_slice.result.now types c.args.ticks c.held_inside.result
    c.held_inside.ensures
