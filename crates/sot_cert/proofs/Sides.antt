-- Sides, cells and lists of cells that were read are in form.
use Rattle.std.proofs.Common.{◌≡◌, ℕ, zero, suc, ◌+◌, ◌≤◌, ◌≤ℤ◌, List, [], ◌∷◌, ◌++◌, length, Ok, refl, subst, length-append, codes, decimal, arith}
use Rattle.std.specs.Prelude.{int_le, nat_le, ◌==◌}
use Rattle.std.proofs.lemmas.Bool.{leb-true, eqb-true}
use Rattle.std.proofs.lemmas.Option.{same_Some}
use Rattle.serde_json.specs.Data.{Data, Items, no_items, item}
use Rattle.serde_json.specs.Events.{items_len}
use Rattle.serde_json.specs.Find.{as_array}
use Rattle.sot_lists.specs.Places.{At}
use Rattle.sot_box.specs.Sides.{Side, AreOrdered}
use Rattle.sot_box.specs.BoxList.{BoxList}
use Rattle.sot_box.proofs.Ordered.{ordered-push}
use Rattle.sot_json.specs.declared.fault.JsonKind.TheVariants.{WrongShape, Width, Empty, TooMany}
use Rattle.sot_json.specs.Says.{Says, or, unless, part}
use Rattle.sot_json.specs.Json.{each_after, each, two}
use Rattle.sot_cert.specs.CertFormat.{number, side, cell, cells, region_of, cell_limit}
use Rattle.sot_json.proofs.Binds.{bind_ok, part_ok, unless_ok, ok_same}
use Rattle.sot_json.proofs.Bounds.{int_le_true}

-- what each item keeps holds of all of them
pub each_keeps : {A : Type 0} (f : Data → Says A) (Q : List A → Type 0) → ((done : List A) (d : Data) (x : A) → Q done → f d ≡ Ok x → Q (done ++ x ∷ []))
    → (done : List A) (ds : Items) (xs : List A) → Q done → each_after (λ (_ : List A). f) done ds ≡ Ok xs → Q xs
unfolding each_after
each_keeps f Q step done no_items xs q h = let e : done ≡ xs = ok_same done xs h in subst Q e q
each_keeps f Q step done (item d ds) xs q h =
    let b = bind_ok (part (decimal (length done)) (f d)) _ xs h in
    each_keeps f Q step (done ++ b.0 ∷ []) ds xs (step done d b.0 q (part_ok (decimal (length done)) (f d) b.0 b.1)) b.2

-- there are as many as items
pub each_len : {A : Type 0} (f : Data → Says A) (done : List A) (ds : Items) (xs : List A) → each_after (λ (_ : List A). f) done ds ≡ Ok xs
    → length xs ≡ length done + items_len ds
unfolding each_after
each_len f done no_items xs h = let e : done ≡ xs = ok_same done xs h in rw (← e) (omega arith)
each_len f done (item d ds) xs h =
    let b = bind_ok (part (decimal (length done)) (f d)) _ xs h in
    let l = each_len f (done ++ b.0 ∷ []) ds xs b.2 in
    omega (arith, l, length-append done (b.0 ∷ []))

side_ordered : (d : Data) (x : Side) → side d ≡ Ok x → x.lo ≤ℤ x.hi
unfolding side
side_ordered d x h =
    let ds = bind_ok (or WrongShape (as_array d)) _ x h in
    let ends = bind_ok (or Width (two ds.0)) _ x ds.2 in
    let lo = bind_ok (part (codes "0") (number ends.0.0)) _ x ends.2 in
    let hi = bind_ok (part (codes "1") (number ends.0.1)) _ x lo.2 in
    let ok = bind_ok (unless Empty (int_le lo.0 hi.0)) _ x hi.2 in
    let e : record { lo = lo.0; hi = hi.0 } ≡ x = ok_same (record { lo = lo.0; hi = hi.0 }) x ok.2 in
    subst (λ (s : Side). s.lo ≤ℤ s.hi) e (int_le_true lo.0 hi.0 (unless_ok Empty _ _ ok.1))

-- a cell has as many sides as asked, each ordered
pub cell_form : (width : ℕ) (d : Data) (b : List Side) → cell width d ≡ Ok b → (length b ≡ width) × AreOrdered b
unfolding cell
cell_form width d b h =
    let ds = bind_ok (or WrongShape (as_array d)) _ b h in
    let ok = bind_ok (unless Width (items_len ds.0 == width)) _ b ds.2 in
    let n : items_len ds.0 ≡ width = eqb-true _ _ (unless_ok Width _ _ ok.1) in
    let l : length b ≡ length {A = Side} [] + items_len ds.0 = each_len side [] ds.0 b ok.2 in
    (omega arith, each_keeps side AreOrdered (λ done e x o s. ordered-push done x o (side_ordered e x s)) [] ds.0 b tt ok.2)

pub cell_len : (width : ℕ) (d : Data) (b : List Side) → cell width d ≡ Ok b → length b ≡ width
cell_len width d b h = (cell_form width d b h).0

-- a list of cells is short, and each cell is in form
pub record AreCells (width : ℕ) (r : BoxList) : Type 0 where
  pub width_is : r.width ≡ width
  pub few : length r.boxes ≤ 4096
  pub form : (i : ℕ) (b : List Side) → At r.boxes i b → (length b ≡ r.width) × AreOrdered b

form_push : {A : Type 0} (P : A → Type 0) (done : List A) (x : A) → ((i : ℕ) (y : A) → At done i y → P y) → P x → (i : ℕ) (y : A) → At (done ++ x ∷ []) i y
    → P y
form_push P [] x all p zero y at = subst P (same_Some x y at) p
form_push P [] x all p (suc i) y at = cc
form_push P (z ∷ zs) x all p zero y at = all 0 y at
form_push P (z ∷ zs) x all p (suc i) y at = form_push P zs x (λ j w a. all (suc j) w a) p i y at

pub cells_form : (width : ℕ) (d : Data) (r : BoxList) → cells width d ≡ Ok r → AreCells width r
unfolding cells
cells_form width d r h =
    let ds = bind_ok (or WrongShape (as_array d)) _ r h in
    let ok = bind_ok (unless TooMany (nat_le (items_len ds.0) cell_limit)) _ r ds.2 in
    let boxes = bind_ok (each (cell width) ds.0) _ r ok.2 in
    let n : items_len ds.0 ≤ 4096 = leb-true _ _ (unless_ok TooMany _ _ ok.1) in
    let l : length boxes.0 ≡ length {A = List Side} [] + items_len ds.0 = each_len (cell width) [] ds.0 boxes.0 boxes.1 in
    let e : region_of width boxes.0 ≡ r = ok_same (region_of width boxes.0) r boxes.2 in
    let P = λ (b : List Side). (length b ≡ width) × AreOrdered b in
    let form = each_keeps (cell width) (λ (bs : List (List Side)). (i : ℕ) (b : List Side) → At bs i b → P b)
    (λ done c b all s. form_push P done b all (cell_form width c b s)) [] ds.0 boxes.0 (λ i b at. absurd (none_at i b at)) boxes.1 in
    subst (λ (r : BoxList). AreCells width r) e (record { width_is = refl; few = omega arith; form = form })
  where
    none_at : (i : ℕ) (b : List Side) → At [] i b → ⊥
    none_at i b at = cc
