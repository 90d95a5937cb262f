use Rattle.std.proofs.Common.{◌≡◌, [], length, get_or, refl, sym, ap, ◌∙◌, subst}
use Rattle.sot_lang.specs.Tables.{Tables}
use Rattle.sot_lists.specs.Places.{Has}
use Rattle.sot_lang.specs.OwnerNames.{seen_width}
use Rattle.sot_lang.specs.TableRules.{MeetsTableRules}
use Rattle.sot_iv.specs.SeenHulls.{AreSeenHulls}
use Rattle.sot_tube.proofs.Follows.{nothing_seen, seen_fit, seen_safe, may_tick, region_width, answers}
use Rattle.sot_tube.proofs.tube.held_inside.Goals as goal

pub seen_hulls-seen-requires-clause-few : goal.seen_hulls-seen-requires-clause-few
seen_hulls-seen-requires-clause-few c =
    let p = c.args.p.now in
    let rules' : MeetsTableRules p = subst MeetsTableRules c.p.view_is c.p.invariant in
    let info = c.index-info.result.now in
    let info_is : info ≡ get_or p.modules c.args.module info = c.index-info.ensures ∙ ap (λ (t : Tables). get_or t.modules c.args.module info) c.p.view_is in
    let plant = c.index-plant.result.now in
    let plant_is : plant ≡ get_or p.plants info.plant plant = c.index-plant.ensures ∙ ap (λ (t : Tables). get_or t.plants info.plant plant) c.p.view_is in
    rw c.deref.ensures.value (seen_fit p rules' c.args.module c.args.b.now c.requires.follow info info_is plant plant_is)

pub seen_hulls-seen-requires-clause-boxes : goal.seen_hulls-seen-requires-clause-boxes
seen_hulls-seen-requires-clause-boxes c k has =
    let p = c.args.p.now in
    let rules' : MeetsTableRules p = subst MeetsTableRules c.p.view_is c.p.invariant in
    let info = c.index-info.result.now in
    let info_is : info ≡ get_or p.modules c.args.module info = c.index-info.ensures ∙ ap (λ (t : Tables). get_or t.modules c.args.module info) c.p.view_is in
    let plant = c.index-plant.result.now in
    let plant_is : plant ≡ get_or p.plants info.plant plant = c.index-plant.ensures ∙ ap (λ (t : Tables). get_or t.plants info.plant plant) c.p.view_is in
    seen_safe p rules' c.args.module c.args.b.now c.requires.follow info info_is plant plant_is k (subst (λ l. Has l k) c.deref.ensures.value has)

pub walk-requires-2-clause-step : goal.walk-requires-2-clause-step
walk-requires-2-clause-step c =
    let p = c.args.p.now in
    let rules' : MeetsTableRules p = subst MeetsTableRules c.p.view_is c.p.invariant in
    let info = c.index-info.result.now in
    let info_is : info ≡ get_or p.modules c.args.module info = c.index-info.ensures ∙ ap (λ (t : Tables). get_or t.modules c.args.module info) c.p.view_is in
    let plant = c.index-plant.result.now in
    let plant_is : plant ≡ get_or p.plants info.plant plant = c.index-plant.ensures ∙ ap (λ (t : Tables). get_or t.plants info.plant plant) c.p.view_is in
    may_tick p rules' c.args.module c.args.b.now c.requires.follow info info_is plant plant_is c.args.held.now c.as_slice.result.now c.requires.commands
    (ap length c.as_slice.ensures.value ∙ c.seen_hulls-seen.ensures.width ∙ ap (seen_width p.plants) c.deref.ensures.value)

pub walk-requires-2-clause-width : goal.walk-requires-2-clause-width
walk-requires-2-clause-width c =
    let p = c.args.p.now in
    let rules' : MeetsTableRules p = subst MeetsTableRules c.p.view_is c.p.invariant in
    let info = c.index-info.result.now in
    let info_is : info ≡ get_or p.modules c.args.module info = c.index-info.ensures ∙ ap (λ (t : Tables). get_or t.modules c.args.module info) c.p.view_is in
    region_width p rules' c.args.module c.args.b.now c.requires.follow info info_is

pub walk-requires-clause-width : goal.walk-requires-clause-width
walk-requires-clause-width c =
    let p = c.args.p.now in
    let rules' : MeetsTableRules p = subst MeetsTableRules c.p.view_is c.p.invariant in
    let info = c.index-info.result.now in
    let info_is : info ≡ get_or p.modules c.args.module info = c.index-info.ensures ∙ ap (λ (t : Tables). get_or t.modules c.args.module info) c.p.view_is in
    region_width p rules' c.args.module c.args.b.now c.requires.follow info info_is

pub returns : goal.returns
returns c =
    let p = c.args.p.now in
    let rules' : MeetsTableRules p = subst MeetsTableRules c.p.view_is c.p.invariant in
    let info = c.index-info.result.now in
    let info_is : info ≡ get_or p.modules c.args.module info = c.index-info.ensures ∙ ap (λ (t : Tables). get_or t.modules c.args.module info) c.p.view_is in
    let plant = c.index-plant.result.now in
    let plant_is : plant ≡ get_or p.plants info.plant plant = c.index-plant.ensures ∙ ap (λ (t : Tables). get_or t.plants info.plant plant) c.p.view_is in
    let seen : AreSeenHulls p.modules plant.sees.items c.as_slice.result.now =
    subst (AreSeenHulls p.modules plant.sees.items) (sym c.as_slice.ensures.value)
    (subst (λ l. AreSeenHulls p.modules l c.seen_hulls-seen.result) c.deref.ensures.value c.seen_hulls-seen.ensures.hulls) in
    answers p rules' c.args.module c.args.b.now c.requires.follow info info_is plant plant_is c.args.held.now c.as_slice.result.now c.args.ticks c.walk-2.result
    seen c.walk-2.ensures

pub walk-requires-clause-step : goal.walk-requires-clause-step
walk-requires-clause-step c =
    let p = c.args.p.now in
    let rules' : MeetsTableRules p = subst MeetsTableRules c.p.view_is c.p.invariant in
    let info = c.index-info.result.now in
    let info_is : info ≡ get_or p.modules c.args.module info = c.index-info.ensures ∙ ap (λ (t : Tables). get_or t.modules c.args.module info) c.p.view_is in
    let plant = c.index-plant.result.now in
    let plant_is : plant ≡ get_or p.plants info.plant plant = c.index-plant.ensures ∙ ap (λ (t : Tables). get_or t.plants info.plant plant) c.p.view_is in
    let none : plant.sees.items ≡ [] = nothing_seen plant c.is_empty.result c.is_empty.ensures c.if-is_empty.true in
    may_tick p rules' c.args.module c.args.b.now c.requires.follow info info_is plant plant_is c.args.held.now [] c.requires.commands
    (ap (seen_width p.plants) (sym none))

pub returns-then-is_empty : goal.returns-then-is_empty
returns-then-is_empty c =
    let p = c.args.p.now in
    let rules' : MeetsTableRules p = subst MeetsTableRules c.p.view_is c.p.invariant in
    let info = c.index-info.result.now in
    let info_is : info ≡ get_or p.modules c.args.module info = c.index-info.ensures ∙ ap (λ (t : Tables). get_or t.modules c.args.module info) c.p.view_is in
    let plant = c.index-plant.result.now in
    let plant_is : plant ≡ get_or p.plants info.plant plant = c.index-plant.ensures ∙ ap (λ (t : Tables). get_or t.plants info.plant plant) c.p.view_is in
    let none : plant.sees.items ≡ [] = nothing_seen plant c.is_empty.result c.is_empty.ensures c.if-is_empty.true in
    let seen : AreSeenHulls p.modules plant.sees.items [] = subst (λ l. AreSeenHulls p.modules l []) (sym none) ([], tt, refl) in
    answers p rules' c.args.module c.args.b.now c.requires.follow info info_is plant plant_is c.args.held.now [] c.args.ticks c.walk.result seen c.walk.ensures
