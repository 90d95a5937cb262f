use Rattle.std.proofs.Common.{◌≡◌, ℕ, ◌+◌, List, length, drop, sym, ap, ◌∙◌, subst, arith, length-drop}
use Rattle.sot_lists.specs.Places.{At}
use Rattle.sot_lists.proofs.Places.{at_same}
use Rattle.sot_box.specs.Sides.{Side}
use Rattle.sot_box.specs.Regions.{Covers}
use Rattle.sot_lang.specs.declared.tables.ModuleInfo.{ModuleInfo}
use Rattle.sot_lang.specs.OwnerNames.{width_of}
use Rattle.sot_recover.specs.Meeting.{IsAroundAll}
use Rattle.sot_recover.proofs.Sides.{dropped_at}
use Rattle.sot_recover.proofs.CellTubes.{account, wide_in}
use Rattle.sot_recover.proofs.Landings.{tube_width, first_inside, hull_is, stays_where, where_stays}
use Rattle.sot_recover.proofs.survey.find.Goals as goal

pub boxes_from-requires : goal.boxes_from-requires
boxes_from-requires c =
    let g = account c.args.p.now c.args.cert.now c.args.«module» c.requires.rules c.requires.certified c.requires.fits c.requires.module_is in
    let lt = first_inside g c.args.cell.now c.put_tube.new.boxes.items (c.in_ok-put_tube.ensures g) c.first_landing-first.result
    (c.first_landing-first.ensures g) in
    let same = ap length c.deref.ensures.value in
    omega (arith, lt, same)

pub hull_of-requires-clause-some : goal.hull_of-requires-clause-some
hull_of-requires-clause-some c =
    let g = account c.args.p.now c.args.cert.now c.args.«module» c.requires.rules c.requires.certified c.requires.fits c.requires.module_is in
    let first = c.first_landing-first.result in
    let boxes = c.put_tube.new.boxes.items in
    let are : c.boxes_from.result.now ≡ drop first boxes = c.boxes_from.ensures ∙ ap (drop first) c.deref.ensures.value in
    let lt = first_inside g c.args.cell.now boxes (c.in_ok-put_tube.ensures g) first (c.first_landing-first.ensures g) in
    let size = ap length are in
    let left = length-drop first boxes in
    omega (arith, lt, size, left)

pub hull_of-requires-clause-widths : goal.hull_of-requires-clause-widths
hull_of-requires-clause-widths c i j b d at_b at_d =
    let g = account c.args.p.now c.args.cert.now c.args.«module» c.requires.rules c.requires.certified c.requires.fits c.requires.module_is in
    let first = c.first_landing-first.result in
    let boxes = c.put_tube.new.boxes.items in
    let are : c.boxes_from.result.now ≡ drop first boxes = c.boxes_from.ensures ∙ ap (drop first) c.deref.ensures.value in
    let wide = (wide_in c.args.p.now c.args.cert.now c.args.«module» c.requires.fits g c.args.cell.now (c.requires.closed g)) in
    tube_width g c.args.cell.now boxes (c.in_ok-put_tube.ensures g) c.requires.rules wide (first + i) b
    (dropped_at first boxes i b (subst (λ l. At l i b) are at_b))
    ∙ sym (tube_width g c.args.cell.now boxes (c.in_ok-put_tube.ensures g) c.requires.rules wide (first + j) d
    (dropped_at first boxes j d (subst (λ l. At l j d) are at_d)))

pub covers_each-requires : goal.covers_each-requires
covers_each-requires c j b at =
    let g = account c.args.p.now c.args.cert.now c.args.«module» c.requires.rules c.requires.certified c.requires.fits c.requires.module_is in
    let same : g.info ≡ c.module_at-info.result.now = at_same c.args.p.now.modules c.args.«module» g.info c.module_at-info.result.now g.info_is
    c.module_at-info.ensures.is in
    tube_width g c.args.cell.now c.put_tube.new.boxes.items (c.in_ok-put_tube.ensures g) c.requires.rules
    (wide_in c.args.p.now c.args.cert.now c.args.«module» c.requires.fits g c.args.cell.now (c.requires.closed g)) j b
    (subst (λ l. At l j b) c.deref-2.ensures.value at)
    ∙ (wide_in c.args.p.now c.args.cert.now c.args.«module» c.requires.fits g c.args.cell.now (c.requires.closed g))
    ∙ ap (λ (a : ModuleInfo). width_of c.args.p.now.plants a.plant) same
    ∙ sym (c.requires.rules.modules c.args.«module» c.module_at-info.result.now c.module_at-info.ensures.is).safer.width

pub returns-clause-hull : goal.returns-clause-hull
returns-clause-hull c g =
    let first = c.first_landing-first.result in
    let boxes = c.put_tube.new.boxes.items in
    let are : c.boxes_from.result.now ≡ drop first boxes = c.boxes_from.ensures ∙ ap (drop first) c.deref.ensures.value in
    hull_is g c.args.cell.now boxes (c.in_ok-put_tube.ensures g) c.hull_of.result first (c.first_landing-first.ensures g) c.requires.rules
    (wide_in c.args.p.now c.args.cert.now c.args.«module» c.requires.fits g c.args.cell.now (c.requires.closed g))
    (subst (IsAroundAll c.hull_of.result) are c.hull_of.ensures.around) (λ b one. c.hull_of.ensures.single b (are ∙ one))

pub returns-clause-stays : goal.returns-clause-stays
returns-clause-stays c g =
    let boxes = c.put_tube.new.boxes.items in
    let same : c.module_at-info.result.now ≡ g.info = at_same c.args.p.now.modules c.args.«module» c.module_at-info.result.now g.info
    c.module_at-info.ensures.is g.info_is in
    let e = c.covers_each.ensures in (
      λ t. stays_where g c.args.cell.now boxes (c.in_ok-put_tube.ensures g)
          (subst (λ (a : ModuleInfo). (j : ℕ) (b : List Side) → At boxes j b → Covers a.safer.boxes b) same
          (subst (λ l. (j : ℕ) (b : List Side) → At l j b → Covers c.module_at-info.result.now.safer.boxes b) c.deref-2.ensures.value (e.0 t))),
      λ s. e.1 (subst (λ l. (j : ℕ) (b : List Side) → At l j b → Covers c.module_at-info.result.now.safer.boxes b) (sym c.deref-2.ensures.value)
          (subst (λ (a : ModuleInfo). (j : ℕ) (b : List Side) → At boxes j b → Covers a.safer.boxes b) (sym same)
          (where_stays g c.args.cell.now boxes (c.in_ok-put_tube.ensures g) s))),
    )
