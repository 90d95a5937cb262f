use Rattle.std.proofs.Common.{◌≡◌, ℕ, ◌+◌, List, length, drop, sym, ap, ◌∙◌, subst, arith}
use Rattle.sot_lists.specs.Places.{At}
use Rattle.sot_box.specs.Sides.{Side}
use Rattle.sot_box.specs.Regions.{Covers}
use Rattle.sot_recover.proofs.Sides.{dropped_at}
use Rattle.sot_recover.proofs.CellTubes.{account, wide_in}
use Rattle.sot_recover.proofs.Landings.{tube_width, first_inside, each_covered, covered_each}
use Rattle.sot_recover.proofs.ground.each_lands.Goals as goal

pub boxes_from-requires : goal.boxes_from-requires
boxes_from-requires c =
    let g = account c.args.p.now c.args.cert.now c.args.«module» c.requires.rules c.requires.certified c.requires.fits c.requires.module_is in
    let lt = first_inside g c.args.cell.now c.put_tube.new.boxes.items (c.in_ok-put_tube.ensures g) c.first_landing-first.result
    (c.first_landing-first.ensures g) in
    let same = ap length c.deref.ensures.value in
    omega (arith, lt, same)

pub covers_each-requires : goal.covers_each-requires
covers_each-requires c j b at =
    let g = account c.args.p.now c.args.cert.now c.args.«module» c.requires.rules c.requires.certified c.requires.fits c.requires.module_is in
    let first = c.first_landing-first.result in
    let boxes = c.put_tube.new.boxes.items in
    let are : c.boxes_from.result.now ≡ drop first boxes = c.boxes_from.ensures ∙ ap (drop first) c.deref.ensures.value in
    tube_width g c.args.cell.now boxes (c.in_ok-put_tube.ensures g) c.requires.rules
    (wide_in c.args.p.now c.args.cert.now c.args.«module» c.requires.fits g c.args.cell.now (c.requires.closed g)) (first + j) b
    (dropped_at first boxes j b (subst (λ l. At l j b) are at))
    ∙ sym c.requires.width

pub returns : goal.returns
returns c g =
    let first = c.first_landing-first.result in
    let boxes = c.put_tube.new.boxes.items in
    let are : c.boxes_from.result.now ≡ drop first boxes = c.boxes_from.ensures ∙ ap (drop first) c.deref.ensures.value in
    let e = c.covers_each.ensures in (
      λ t. each_covered g c.args.cell.now boxes (c.in_ok-put_tube.ensures g) c.args.near.now.boxes first (c.first_landing-first.ensures g)
          (subst (λ l. (j : ℕ) (b : List Side) → At l j b → Covers c.args.near.now.boxes b) are (e.0 t)),
      λ a. e.1 (subst (λ l. (j : ℕ) (b : List Side) → At l j b → Covers c.args.near.now.boxes b) (sym are)
          (covered_each g c.args.cell.now boxes (c.in_ok-put_tube.ensures g) c.args.near.now.boxes first (c.first_landing-first.ensures g) a)),
    )
