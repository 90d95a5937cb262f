use Rattle.std.proofs.Common.{arith, ◌≡◌, ◌++◌, length, get_or, ap, sym, ◌∙◌, subst, length-append}
use Rattle.sot_lists.specs.Places.{At}
use Rattle.sot_lang.specs.Tables.{Tables}
use Rattle.sot_lang.specs.declared.tables.NoiseInfo.{NoiseInfo}
use Rattle.sot_lang.specs.Ranges.{bounds}
use Rattle.sot_lang.specs.TableRules.{MeetsTableRules}
use Rattle.std.specs.Prelude.{map}
use Rattle.sot_iv.proofs.PlantNames.{sizes}
use Rattle.sot_lang.proofs.Owners.{plant_is}
use Rattle.sot_iv.proofs.plant.put_plant_ranges.Goals as goal

pub extend-requires-2 : goal.extend-requires-2
extend-requires-2 c =
    let tables = subst MeetsTableRules c.p.view_is c.p.invariant in
    let s = sizes c.args.p.now c.args.plant c.args.b.now c.args.held.now c.args.seen.now tables c.requires.may in
    let e = ap length c.extend.ensures ∙ length-append c.put_box.new.sides c.args.held.now in
    let f = ap length (c.put_box.ensures ∙ ap (λ l. l ++ c.args.b.now) c.requires.empty) in
    omega (arith, s.0, s.1, s.2, e, f)

pub put_bounds-requires-clause-room : goal.put_bounds-requires-clause-room
put_bounds-requires-clause-room c =
    let tables = subst MeetsTableRules c.p.view_is c.p.invariant in
    let s = sizes c.args.p.now c.args.plant c.args.b.now c.args.held.now c.args.seen.now tables c.requires.may in
    let p = c.args.p.now in
    let info = c.index-info.result.now in
    let is : info ≡ get_or p.plants c.args.plant info = c.index-info.ensures ∙ ap (λ (t : Tables). get_or t.plants c.args.plant info) c.p.view_is in
    let same = plant_is p c.args.plant c.requires.may.plant info c.requires.may.is is in
    let here : At p.plants c.args.plant info = subst (λ x. At p.plants c.args.plant x) same c.requires.may.is in
    let r = tables.plants c.args.plant info here in
    let e = ap length c.extend.ensures ∙ length-append c.put_box.new.sides c.args.held.now in
    let f = ap length (c.put_box.ensures ∙ ap (λ l. l ++ c.args.b.now) c.requires.empty) in
    let g = ap length c.extend-2.ensures ∙ length-append c.extend.new.self c.args.seen.now in
    let d = ap length c.deref.ensures.value in
    omega (arith, s.0, s.1, s.2, e, f, g, d, r.noise)

pub put_bounds-requires-clause-ordered : goal.put_bounds-requires-clause-ordered
put_bounds-requires-clause-ordered c i d at =
    let tables = subst MeetsTableRules c.p.view_is c.p.invariant in
    let p = c.args.p.now in
    let info = c.index-info.result.now in
    let is : info ≡ get_or p.plants c.args.plant info = c.index-info.ensures ∙ ap (λ (t : Tables). get_or t.plants c.args.plant info) c.p.view_is in
    let same = plant_is p c.args.plant c.requires.may.plant info c.requires.may.is is in
    let here : At p.plants c.args.plant info = subst (λ x. At p.plants c.args.plant x) same c.requires.may.is in
    let r = tables.plants c.args.plant info here in
    let n = r.noise_ranges i d (subst (λ l. At l i d) c.deref.ensures.value at) in
    n.1.0

pub returns : goal.returns
returns c plant at =
    let p = c.args.p.now in
    let info = c.index-info.result.now in
    let is : info ≡ get_or p.plants c.args.plant info = c.index-info.ensures ∙ ap (λ (t : Tables). get_or t.plants c.args.plant info) c.p.view_is in
    let theirs : info ≡ plant = sym (plant_is p c.args.plant plant info at is) in
    let h = c.args.held.now in
    let v = c.args.seen.now in
    let b = c.args.b.now in
    c.put_bounds.ensures
    ∙ ap (λ l. l ++ map (λ (d : NoiseInfo). record { lo = d.lo; hi = d.hi }) c.deref.result.now)
    (c.extend-2.ensures ∙ ap (λ l. l ++ v) (c.extend.ensures ∙ ap (λ l. l ++ h) (c.put_box.ensures ∙ ap (λ l. l ++ c.args.b.now) c.requires.empty)))
    ∙ ap (λ l. b ++ h ++ v ++ map (λ (d : NoiseInfo). record { lo = d.lo; hi = d.hi }) l) c.deref.ensures.value
    ∙ ap (λ x. b ++ h ++ v ++ bounds x) theirs
