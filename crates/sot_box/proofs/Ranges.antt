-- Numbers within intervals, place by place.
use Rattle.std.proofs.Common.{◌≡◌, ℕ, zero, suc, ℤ, pos, ◌≤ℤ◌, List, [], ◌∷◌, ◌++◌, true, subst, map, length, refl, ap, arith}
use Rattle.std.specs.Prelude.{slice_index_or, slice_set, int_le, ◌&&◌}
use Rattle.std.proofs.lemmas.Option.{get_or_from_slice_get}
use Rattle.std.proofs.lemmas.Int.{ints}
use Rattle.std.proofs.lemmas.Bool.{and_parts}
use Rattle.sot_lists.specs.Places.{At}
use Rattle.sot_box.specs.Sides.{Side, IsIn, AreOrdered, nought}
use Rattle.sot_box.specs.Boxes.{IsWithin, lows}

le_refl_ℤ : (z : ℤ) → z ≤ℤ z
le_refl_ℤ z = omega (arith, ints)

-- a number that is read by its place is in the range that is read by its place
pub within_read : (rs : List Side) (xs : List ℤ) (k : ℕ) → IsWithin rs xs → IsIn (slice_index_or rs k nought) (slice_index_or xs k (pos 0))
within_read [] [] k w = (le_refl_ℤ (pos 0), le_refl_ℤ (pos 0))
within_read (r ∷ rs) (x ∷ xs) zero w = (w.0, w.1)
within_read (r ∷ rs) (x ∷ xs) (suc k) w = within_read rs xs k w.2
within_read [] (x ∷ xs) k w = absurd w
within_read (r ∷ rs) [] k w = absurd w

pub within_set : (rs : List Side) (xs : List ℤ) (k : ℕ) (z : ℤ) → IsWithin rs xs → IsIn (slice_index_or rs k nought) z → IsWithin rs (slice_set xs k z)
within_set [] [] k z w i = tt
within_set (r ∷ rs) (x ∷ xs) zero z w i = (i.0, i.1, w.2)
within_set (r ∷ rs) (x ∷ xs) (suc k) z w i = (w.0, w.1, within_set rs xs k z w.2 i)
within_set [] (x ∷ xs) k z w i = absurd w
within_set (r ∷ rs) [] k z w i = absurd w

pub within_length : (rs : List Side) (xs : List ℤ) → IsWithin rs xs → length xs ≡ length rs
within_length [] [] w = refl
within_length (r ∷ rs) (x ∷ xs) w = ap suc (within_length rs xs w.2)
within_length [] (x ∷ xs) w = absurd w
within_length (r ∷ rs) [] w = absurd w

-- numbers that are picked are in the ranges that are picked
pub within_picked : (rs : List Side) (xs : List ℤ) (ks : List ℕ) → IsWithin rs xs
    → IsWithin (map (λ k. slice_index_or rs k nought) ks) (map (λ k. slice_index_or xs k (pos 0)) ks)
within_picked rs xs [] w = tt
within_picked rs xs (k ∷ ks) w = (let i = within_read rs xs k w in (i.0, i.1, within_picked rs xs ks w))

pub in_range_is : (r : Side) (z : ℤ) → (int_le r.lo z && int_le z r.hi) ≡ true → IsIn r z
in_range_is r z e = grind (arith, ints, and_parts (int_le r.lo z) (int_le z r.hi) e)

pub within_append : (a b : List Side) (x y : List ℤ) → IsWithin a x → IsWithin b y → IsWithin (a ++ b) (x ++ y)
within_append [] b [] y wa wb = wb
within_append (r ∷ rs) b (z ∷ zs) y wa wb = (wa.0, wa.1, within_append rs b zs y wa.2 wb)
within_append [] b (z ∷ zs) y wa wb = absurd wa
within_append (r ∷ rs) b [] y wa wb = absurd wa

pub within_at : (rs : List Side) (xs : List ℤ) (i : ℕ) (r : Side) (x : ℤ) → IsWithin rs xs → At rs i r → At xs i x → IsIn r x
within_at rs xs i r x w a b =
    let h = within_read rs xs i w in
    let er : slice_index_or rs i (record { lo = pos 0; hi = pos 0 }) ≡ r = get_or_from_slice_get rs i r _ a in
    let ex : slice_index_or xs i (pos 0) ≡ x = get_or_from_slice_get xs i x _ b in
    subst (λ q. IsIn q x) er (subst (IsIn (slice_index_or rs i (record { lo = pos 0; hi = pos 0 }))) ex h)

-- the low ends of intervals in order are within them
pub lows_within : (rs : List Side) → AreOrdered rs → IsWithin rs (lows rs)
lows_within [] o = tt
lows_within (r ∷ rs) o = (omega (arith, ints), o.0, lows_within rs o.1)

-- intervals that hold numbers are in order
pub within_in_order : (rs : List Side) (zs : List ℤ) → IsWithin rs zs → AreOrdered rs
within_in_order [] [] w = tt
within_in_order (r ∷ rs) (z ∷ zs) w = (omega (arith, ints, w.0, w.1), within_in_order rs zs w.2)
within_in_order [] (z ∷ zs) w = absurd w
within_in_order (r ∷ rs) [] w = absurd w

-- what holds of each point of a box, axis by axis
pub all_without_axes : (P : List ℤ → Type 0) → P [] → (s : List ℤ) → IsWithin [] s → P s
all_without_axes P here [] w = here
all_without_axes P here (x ∷ xs) w = absurd w

pub all_by_first : (P : List ℤ → Type 0) (r : Side) (rs : List Side) → ((z : ℤ) → IsIn r z → (s : List ℤ) → IsWithin rs s → P (z ∷ s)) → (s : List ℤ)
    → IsWithin (r ∷ rs) s → P s
all_by_first P r rs all [] w = absurd w
all_by_first P r rs all (x ∷ xs) w = all x (w.0, w.1) xs w.2
