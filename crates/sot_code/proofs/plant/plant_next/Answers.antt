use Rattle.std.proofs.Common.{arith, ◌≡◌, ◌+◌, ◌++◌, length, get_or, take, pos, ap, sym, ◌∙◌, subst}
use Rattle.std.proofs.lemmas.List.{length-replicate}
use Rattle.sot_lists.specs.Places.{At}
use Rattle.sot_lang.specs.Tables.{Tables}
use Rattle.sot_lang.specs.Ticks.{values, next_state}
use Rattle.sot_lang.specs.OwnerNames.{plant_truths}
use Rattle.sot_lang.specs.TermRules.{TermsFit}
use Rattle.sot_lang.specs.TableRules.{MeetsTableRules}
use Rattle.sot_code.specs.Recorded.{MayTickPlant}
use Rattle.sot_code.proofs.Plants.{sizes, places_of}
use Rattle.sot_lang.proofs.Owners.{plant_is, plant_places}
use Rattle.sot_code.proofs.plant.plant_next.Goals as goal

pub put-requires-2 : goal.put-requires-2
put-requires-2 c =
    let s = sizes c.args.p.now c.args.plant c.args.state.now c.args.held.now c.args.seen.now c.args.noise.now (subst MeetsTableRules c.p.view_is c.p.invariant)
    c.requires in
    record { room = omega (arith, s.0, s.1, s.2, c.put.ensures.size, c.put_point.ensures.size, c.len-states.ensures.few, length-replicate 80 (pos 0)) }

pub put-requires-3 : goal.put-requires-3
put-requires-3 c =
    let s = sizes c.args.p.now c.args.plant c.args.state.now c.args.held.now c.args.seen.now c.args.noise.now (subst MeetsTableRules c.p.view_is c.p.invariant)
    c.requires in
    record {
      room = omega (
        arith,
        s.0,
        s.1,
        s.2,
        c.put-2.ensures.size,
        c.put.ensures.size,
        c.put_point.ensures.size,
        c.len-states.ensures.few,
        length-replicate 80 (pos 0),
      );
    }

pub point_of-requires-clause-some : goal.point_of-requires-clause-some
point_of-requires-clause-some c =
    let p = c.args.p.now in
    let info = c.index-info.result.now in
    let is : info ≡ get_or p.plants c.args.plant info = c.index-info.ensures ∙ ap (λ (t : Tables). get_or t.plants c.args.plant info) c.p.view_is in
    let here : At p.plants c.args.plant info = subst (λ x. At p.plants c.args.plant x) (plant_is p c.args.plant c.requires.plant info c.requires.is is)
    c.requires.is in
    let r = (subst MeetsTableRules c.p.view_is c.p.invariant).plants c.args.plant info here in
    let same = ap length c.deref.ensures.value in
    omega (arith, r.some_state, r.one_next, same)

pub point_of-requires-clause-few : goal.point_of-requires-clause-few
point_of-requires-clause-few c =
    let p = c.args.p.now in
    let info = c.index-info.result.now in
    let is : info ≡ get_or p.plants c.args.plant info = c.index-info.ensures ∙ ap (λ (t : Tables). get_or t.plants c.args.plant info) c.p.view_is in
    let here : At p.plants c.args.plant info = subst (λ x. At p.plants c.args.plant x) (plant_is p c.args.plant c.requires.plant info c.requires.is is)
    c.requires.is in
    let r = (subst MeetsTableRules c.p.view_is c.p.invariant).plants c.args.plant info here in
    let same = ap length c.deref.ensures.value in
    omega (arith, r.states, r.one_next, same)

pub point_of-requires-clause-places : goal.point_of-requires-clause-places
point_of-requires-clause-places c =
    let p = c.args.p.now in
    let info = c.index-info.result.now in
    let is : info ≡ get_or p.plants c.args.plant info = c.index-info.ensures ∙ ap (λ (t : Tables). get_or t.plants c.args.plant info) c.p.view_is in
    let same = plant_is p c.args.plant c.requires.plant info c.requires.is is in
    let here : At p.plants c.args.plant info = subst (λ x. At p.plants c.args.plant x) same c.requires.is in
    let r = (subst MeetsTableRules c.p.view_is c.p.invariant).plants c.args.plant info here in
    let m : MayTickPlant p c.args.plant c.args.state.now c.args.held.now c.args.seen.now c.args.noise.now = c.requires in
    let counts = places_of p c.args.plant c.args.state.now c.args.held.now c.args.seen.now c.args.noise.now info m same in
    plant_places p info c.deref.result.now (length c.split_at.result.0.now) (subst (TermsFit (plant_truths p info)) (sym c.deref.ensures.value) r.next)
    (c.split_at.ensures.front_len ∙ omega (arith, counts, c.len-states.ensures.value))

pub returns : goal.returns
unfolding next_state
returns c plant at =
    let p = c.args.p.now in
    let info = c.index-info.result.now in
    let is : info ≡ get_or p.plants c.args.plant info = c.index-info.ensures ∙ ap (λ (t : Tables). get_or t.plants c.args.plant info) c.p.view_is in
    let theirs : info ≡ plant = sym (plant_is p c.args.plant plant info at is) in
    let s = c.args.state.now in
    let h = c.args.held.now in
    let v = c.args.seen.now in
    let w = c.args.noise.now in
    let none_before : c.len-states.result ≡ 0 + length s = omega (arith, c.len-states.ensures.value) in
    let front : take c.len-states.result c.put_point.new.numbers ≡ s = ap (λ n. take n c.put_point.new.numbers) none_before ∙ c.put_point.ensures.front in
    let joined : c.split_at.result.0.now ≡ s ++ h ++ v ++ w =
    c.split_at.ensures.front ∙ c.put-3.ensures.front ∙ ap (λ l. l ++ w)
    (c.put-2.ensures.front ∙ ap (λ l. l ++ v) (c.put.ensures.front ∙ ap (λ l. l ++ h) front)) in
    c.point_of.ensures ∙ ap (λ l. values c.deref.result.now l) joined
    ∙ ap (λ ts. values ts (s ++ h ++ v ++ w)) (c.deref.ensures.value ∙ ap (λ x. x.next.items) theirs)
