-- The tests of boxes and of regions say what is in them.
use Rattle.std.proofs.Common.{◌≡◌, ◌∙◌, ℤ, ◌≤ℤ◌, List, [], ◌∷◌, Bool, true, false, Some, length, inl, inr, refl, sym, ap, arith}
use Rattle.std.specs.Prelude.{int_le, ◌&&◌, ◌||◌, ◌↔◌, IsTrue, slice_get}
use Rattle.std.proofs.lemmas.Option.{same_Some}
use Rattle.std.proofs.lemmas.Int.{ints}
use Rattle.std.proofs.lemmas.Bool.{false≢true, and_parts, and_from, or_cases, or_left, or_right, cases_Bool, false_from_ne_true}
use Rattle.sot_box.specs.Sides.{Side, IsIn}
use Rattle.sot_box.specs.Boxes.{IsWithin}
use Rattle.sot_box.specs.Regions.{IsInRegion}
use Rattle.sot_box.proofs.Ranges.{in_range_is}
use Rattle.sot_box.proofs.Indexes.{le_false}
use Rattle.sot_summary.specs.Outside.{is_within, is_in_region}

le_test : (a b : ℤ) → a ≤ℤ b → int_le a b ≡ true
le_test a b h = elim (cases_Bool (int_le a b)) [
  | inl yes' ↦ yes'
  | inr no' ↦ absurd (let lt = le_false a b no' in omega (arith, ints, h, lt))
]

within_so : (b : List Side) (s : List ℤ) → is_within b s ≡ true → IsWithin b s
within_so [] [] e = tt
within_so (r ∷ rs) (x ∷ xs) e =
    let parts = and_parts (int_le r.lo x && int_le x r.hi) (is_within rs xs) e in
    let inside : IsIn r x = in_range_is r x parts.0 in
    (inside.0, inside.1, within_so rs xs parts.1)
within_so [] (x ∷ xs) e = absurd cc
within_so (r ∷ rs) [] e = absurd cc

within_only : (b : List Side) (s : List ℤ) → IsWithin b s → is_within b s ≡ true
within_only [] [] w = refl
within_only (r ∷ rs) (x ∷ xs) w =
    and_from (int_le r.lo x && int_le x r.hi) (is_within rs xs) (and_from (int_le r.lo x) (int_le x r.hi) (le_test r.lo x w.0) (le_test x r.hi w.1))
    (within_only rs xs w.2)
within_only [] (x ∷ xs) w = absurd w
within_only (r ∷ rs) [] w = absurd w

region_so : (bs : List (List Side)) (s : List ℤ) → is_in_region bs s ≡ true → IsInRegion bs s
region_so [] s e = absurd cc
region_so (b ∷ bs) s e = elim (or_cases (is_within b s) (is_in_region bs s) e) [
  | inl here ↦ inl (within_so b s here)
  | inr behind ↦ inr (region_so bs s behind)
]

region_only : (bs : List (List Side)) (s : List ℤ) → IsInRegion bs s → is_in_region bs s ≡ true
region_only [] s r = absurd r
region_only (b ∷ bs) s (inl w) = or_left (is_within b s) (is_in_region bs s) (within_only b s w)
region_only (b ∷ bs) s (inr r) = or_right (is_within b s) (is_in_region bs s) (region_only bs s r)

pub region_test : (bs : List (List Side)) (s : List ℤ) → IsTrue (is_in_region bs s) ↔ IsInRegion bs s
region_test bs s = (region_so bs s, region_only bs s)

-- another exact test is the same one
pub same_test : (b : Bool) (bs : List (List Side)) (s : List ℤ) → IsTrue b ↔ IsInRegion bs s → b ≡ is_in_region bs s
same_test b bs s exact = elim (cases_Bool b) [
  | inl yes' ↦ yes' ∙ sym (region_only bs s (exact.0 yes'))
  | inr no' ↦ no' ∙ sym (false_from_ne_true (is_in_region bs s) (λ inside. false≢true (sym no' ∙ exact.1 (region_so bs s inside))))
]

none_behind : (b : Bool) → (b || false) ≡ b
none_behind b = elim (cases_Bool b) [
  | inl yes' ↦ rw yes' refl
  | inr no' ↦ rw no' refl
]

all_behind : (b : Bool) → (b && true) ≡ b
all_behind b = elim (cases_Bool b) [
  | inl yes' ↦ rw yes' refl
  | inr no' ↦ rw no' refl
]

-- in a region of one box is what is in the box
one_box : (bs : List (List Side)) (b : List Side) (s : List ℤ) → length bs ≡ 1 → slice_get bs 0 ≡ Some b → is_within b s ≡ is_in_region bs s
one_box [] b s one at = absurd (omega (arith, one))
one_box (c ∷ []) b s one at = ap (λ x. is_within x s) (sym (same_Some c b at)) ∙ sym (none_behind (is_within c s))
one_box (c ∷ d ∷ bs) b s one at = absurd (omega (arith, one))

-- in a box of one axis is what is between its ends
one_axis : (b : List Side) (r : Side) (x : ℤ) → length b ≡ 1 → slice_get b 0 ≡ Some r → (int_le r.lo x && int_le x r.hi) ≡ is_within b (x ∷ [])
one_axis [] r x one at = absurd (omega (arith, one))
one_axis (c ∷ []) r x one at = ap (λ (y : Side). int_le y.lo x && int_le x y.hi) (sym (same_Some c r at)) ∙ sym (all_behind (int_le c.lo x && int_le x c.hi))
one_axis (c ∷ d ∷ b) r x one at = absurd (omega (arith, one))

-- a point of one number
one_number : (s : List ℤ) (x : ℤ) → length s ≡ 1 → slice_get s 0 ≡ Some x → x ∷ [] ≡ s
one_number [] x one at = absurd (omega (arith, one))
one_number (y ∷ []) x one at = ap (λ (z : ℤ). z ∷ []) (sym (same_Some y x at))
one_number (y ∷ z ∷ s) x one at = absurd (omega (arith, one))

-- a number is in a region of one box of one axis exactly where it is between the box's ends
pub on_line : (bs : List (List Side)) (b : List Side) (r : Side) (s : List ℤ) (x : ℤ) → length bs ≡ 1 → slice_get bs 0 ≡ Some b → length b ≡ 1
    → slice_get b 0 ≡ Some r → length s ≡ 1 → slice_get s 0 ≡ Some x
    → (int_le r.lo x && int_le x r.hi) ≡ is_in_region bs s
on_line bs b r s x one_in_bs at_bs one_in_b at_b one_in_s at_s =
    one_axis b r x one_in_b at_b ∙ ap (is_within b) (one_number s x one_in_s at_s) ∙ one_box bs b s one_in_bs at_bs

pub same_between : (l l' h h' x x' : ℤ) → l ≡ l' → h ≡ h' → x ≡ x' → (int_le l x && int_le x h) ≡ (int_le l' x' && int_le x' h')
same_between l l' h h' x x' low high number = rw (low, high, number) refl
