-- What `==` answers at intervals, points and boxes, for callers that compare them.
use Rattle.std.proofs.Common.{◌≡◌, ◌==◌, ◌++◌, ◌-◌, ℤ, pos, Bool, List, length, take, replicate, IsTrue, ◌↔◌, ap, sym, ◌∙◌, refl}
use Rattle.std.specs.Prelude.{◌&&◌}
use Rattle.std.proofs.Math.Seq.{take-append_seam}
use Rattle.std.specs.Bool.{Decides}
use Rattle.std.specs.Ordering.{int_eq}
use lib.Pointwise.{pointwise}
use Rattle.std.proofs.lemmas.Slice.Eq.{slice_eq-Decides}
use Rattle.std.proofs.lemmas.Bool.Decides.{Decides-int_eq, Decides-eqb, Decides-and}
use Rattle.sot_box.specs.Sides.{Side}
use Rattle.sot_box.specs.BoxSlots.{zero_side}

-- an interval is known by its ends
pub interval_ends : (a b : Side) → a.lo ≡ b.lo → a.hi ≡ b.hi → a ≡ b
interval_ends a b l h i = record { lo = l i; hi = h i }

abbrev interval_eq : Side → Side → Bool
interval_eq a b = int_eq a.lo b.lo && int_eq a.hi b.hi

interval_eq-Decides : (a b : Side) → Decides (interval_eq a b) (a ≡ b)
interval_eq-Decides a b =
    let ends = Decides-and (int_eq a.lo b.lo) (int_eq a.hi b.hi) (Decides-int_eq a.lo b.lo) (Decides-int_eq a.hi b.hi) in
    (λ t. let e = ends.0 t in interval_ends a b e.0 e.1, λ e. ends.1 (ap (λ (r : Side). r.lo) e, ap (λ (r : Side). r.hi) e))

-- lists that one part fills up to four places
unpadded : {A : Type 0} (pad : A) (xs ys : List A) → length xs ≡ length ys
    → xs ++ replicate (4 - length xs) pad ≡ ys ++ replicate (4 - length ys) pad → xs ≡ ys
unpadded pad xs ys long e =
    sym (take-append_seam xs (replicate (4 - length xs) pad)) ∙ ap (λ zs. take (length xs) zs) e
    ∙ ap (λ n. take n (ys ++ replicate (4 - length ys) pad)) long ∙ take-append_seam ys (replicate (4 - length ys) pad)

slots_eq : {A : Type 0} (eq : A → A → Bool) → ((a b : A) → Decides (eq a b) (a ≡ b)) → (pad : A) (xs ys : List A) (r : Bool)
    → r ≡ ((length xs == length ys) && pointwise eq (xs ++ replicate (4 - length xs) pad) (ys ++ replicate (4 - length ys) pad))
    → Decides r (xs ≡ ys)
slots_eq eq same pad xs ys r is =
    let full : _ = slice_eq-Decides same (xs ++ replicate (4 - length xs) pad) (ys ++ replicate (4 - length ys) pad) _ refl in
    let parts = Decides-and _ _ (Decides-eqb (length xs) (length ys)) full in (
      λ t. let e = parts.0 (sym is ∙ t) in unpadded pad xs ys e.0 e.1,
      λ e. is ∙ parts.1 (ap length e, ap (λ zs. zs ++ replicate (4 - length zs) pad) e),
    )

-- `==` of two points is true exactly where they are one point
pub point_eq : (p q : List ℤ) (r : Bool)
    → r ≡ ((length p == length q) && pointwise int_eq (p ++ replicate (4 - length p) (pos 0)) (q ++ replicate (4 - length q) (pos 0)))
    → (IsTrue r ↔ (p ≡ q))
point_eq p q r is = slots_eq int_eq Decides-int_eq (pos 0) p q r is

-- `==` of two boxes is true exactly where they are one box
pub box_eq : (p q : List Side) (r : Bool)
    → r ≡ ((length p == length q) && pointwise interval_eq (p ++ replicate (4 - length p) zero_side) (q ++ replicate (4 - length q) zero_side))
    → (IsTrue r ↔ (p ≡ q))
box_eq p q r is = slots_eq interval_eq interval_eq-Decides zero_side p q r is
