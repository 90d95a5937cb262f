-- What a draft's publication leaves.
use Rattle.std.proofs.Common.{◌≡◌, ℕ, zero, suc, ◌<◌, ℤ, pos, Bool, true, ◌⊎◌, inl, inr, ⊎_elim, List, [], ◌∷◌, Option, Some, None, length, refl, sym, ap, ◌∙◌}
use Rattle.std.proofs.Common.{subst, arith}
use Rattle.std.specs.Prelude.{slice_index_or, slice_set, int_le, ◌&&◌}
use Rattle.std.proofs.lemmas.Bool.{cases_Bool, false≢true}
use Rattle.std.proofs.lemmas.List.{get_or-set_same, get_or-set_other, length-set}
use Rattle.std.proofs.lemmas.Int.{ints}
use Rattle.sot_box.specs.Sides.{Side, IsIn}
use Rattle.sot_lang.specs.Tables.{Tables}
use Rattle.sot_lists.specs.Places.{At, Has}
use Rattle.sot_box.specs.Boxes.{IsWithin}
use Rattle.sot_lang.specs.Ranges.{range_of, scalar_ranges}
use Rattle.sot_world.specs.Steps.{put, publish}
use Rattle.sot_box.proofs.Ranges.{within_set, in_range_is}

abbrev pub in_range : Side → ℤ → Bool
in_range r z = int_le r.lo z && int_le z r.hi

pub is_in_range : (r : Side) (z : ℤ) → IsIn r z → in_range r z ≡ true
is_in_range r z i = grind (arith, ints)

pub in_range_cases : (r : Side) (z : ℤ) → IsIn r z ⊎ (IsIn r z → ⊥)
in_range_cases r z =
    ⊎_elim (λ t. inl (in_range_is r z t)) (λ f. inr (λ i. false≢true (sym f ∙ is_in_range r z i))) (cases_Bool (in_range r z))

put_in : (r : Side) (k : ℕ) (z : ℤ) (xs : List ℤ) → IsIn r z → put r k z xs ≡ slice_set xs k z
put_in r k z xs i = rw (is_in_range r z i) refl

put_cases : (r : Side) (k : ℕ) (z : ℤ) (xs : List ℤ) → (IsIn r z × (put r k z xs ≡ slice_set xs k z)) ⊎ (put r k z xs ≡ xs)
put_cases r k z xs = ⊎_elim (λ t. inl (in_range_is r z t, rw t refl)) (λ f. inr (rw f refl)) (cases_Bool (in_range r z))

pub publish_within : (p : Tables) (ws : List ℕ) (draft : List (Option ℤ)) (xs : List ℤ) → IsWithin (scalar_ranges p) xs
    → IsWithin (scalar_ranges p) (publish p ws draft xs)
publish_within p [] draft xs w = w
publish_within p (k ∷ ks) [] xs w = w
publish_within p (k ∷ ks) (None ∷ draft) xs w = publish_within p ks draft xs w
publish_within p (k ∷ ks) (Some z ∷ draft) xs w =
    publish_within p ks draft (put (range_of p.scalars k) k z xs) (⊎_elim
    (λ a. subst (IsWithin (scalar_ranges p)) (sym a.1) (within_set (scalar_ranges p) xs k z w a.0))
    (λ e. subst (IsWithin (scalar_ranges p)) (sym e) w)
    (put_cases (range_of p.scalars k) k z xs))

put_length : (r : Side) (k : ℕ) (z : ℤ) (xs : List ℤ) → length (put r k z xs) ≡ length xs
put_length r k z xs = ⊎_elim (λ a. ap length a.1 ∙ length-set xs k z) (λ e. ap length e) (put_cases r k z xs)

pub publish_other : (p : Tables) (ws : List ℕ) (draft : List (Option ℤ)) (xs : List ℤ) (n : ℕ) → (Has ws n → ⊥)
    → slice_index_or (publish p ws draft xs) n (pos 0) ≡ slice_index_or xs n (pos 0)
publish_other p [] draft xs n no' = refl
publish_other p (k ∷ ks) [] xs n no' = refl
publish_other p (k ∷ ks) (None ∷ draft) xs n no' = publish_other p ks draft xs n (λ h. no' (suc h.0, h.1))
publish_other p (k ∷ ks) (Some z ∷ draft) xs n no' =
    let r = range_of p.scalars k in
    publish_other p ks draft (put r k z xs) n (λ h. no' (suc h.0, h.1))
    ∙ ⊎_elim
    (λ a. ap (λ ys. slice_index_or ys n (pos 0)) a.1 ∙ get_or-set_other xs k n z (pos 0) (λ e. no' (0, ap Some (sym e))))
    (λ e. ap (λ ys. slice_index_or ys n (pos 0)) e)
    (put_cases r k z xs)

-- a drafted number in its range is published, where no scalar is written twice
pub publish_set : (p : Tables) (ws : List ℕ) (draft : List (Option ℤ)) (xs : List ℤ) (i k : ℕ) (z : ℤ) → ((a b n : ℕ) → At ws a n → At ws b n → a ≡ b)
    → At ws i k → At draft i (Some z) → IsIn (range_of p.scalars k) z → k < length xs → slice_index_or (publish p ws draft xs) k (pos 0) ≡ z
publish_set p [] draft xs i k z one at d w lt = cc
publish_set p (n ∷ ns) [] xs i k z one at d w lt = cc
publish_set p (n ∷ ns) (None ∷ draft) xs zero k z one at d w lt = cc
publish_set p (n ∷ ns) (None ∷ draft) xs (suc i) k z one at d w lt =
    publish_set p ns draft xs i k z (λ a b m x y. omega (arith, one (suc a) (suc b) m x y)) at d w lt
publish_set p (n ∷ ns) (Some y ∷ draft) xs zero k z one at d w lt =
    let nk : n ≡ k = cc in
    let yz : y ≡ z = cc in
    let r = range_of p.scalars n in
    let in' : IsIn r y = subst (IsIn r) (sym yz) (subst (λ m. IsIn (range_of p.scalars m) z) (sym nk) w) in
    publish_other p ns draft (put r n y xs) k (λ h. let e = one 0 (suc h.0) k at h.1 in absurd (omega arith))
    ∙ ap (λ ys. slice_index_or ys k (pos 0)) (put_in r n y xs in')
    ∙ ap (λ m. slice_index_or (slice_set xs m y) k (pos 0)) nk
    ∙ get_or-set_same xs k y (pos 0) lt
    ∙ yz
publish_set p (n ∷ ns) (Some y ∷ draft) xs (suc i) k z one at d w lt =
    let r = range_of p.scalars n in
    publish_set p ns draft (put r n y xs) i k z (λ a b m x y. omega (arith, one (suc a) (suc b) m x y)) at d w (omega (arith, put_length r n y xs))

-- a scalar stays where its slot has no number in its range, and no scalar is written twice
pub publish_kept : (p : Tables) (ws : List ℕ) (draft : List (Option ℤ)) (xs : List ℤ) (i k : ℕ) → ((a b n : ℕ) → At ws a n → At ws b n → a ≡ b) → At ws i k
    → ((z : ℤ) → At draft i (Some z) → IsIn (range_of p.scalars k) z → ⊥) → slice_index_or (publish p ws draft xs) k (pos 0) ≡ slice_index_or xs k (pos 0)
publish_kept p [] draft xs i k one at h = refl
publish_kept p (n ∷ ns) [] xs i k one at h = refl
publish_kept p (n ∷ ns) (None ∷ draft) xs zero k one at h =
    publish_other p ns draft xs k (λ has. let e = one 0 (suc has.0) k at has.1 in absurd (omega arith))
publish_kept p (n ∷ ns) (None ∷ draft) xs (suc i) k one at h =
    publish_kept p ns draft xs i k (λ a b m x y. omega (arith, one (suc a) (suc b) m x y)) at h
publish_kept p (n ∷ ns) (Some y ∷ draft) xs zero k one at h =
    let nk : n ≡ k = cc in
    publish_other p ns draft (put (range_of p.scalars n) n y xs) k (λ has. let e = one 0 (suc has.0) k at has.1 in absurd (omega arith))
    ∙ ⊎_elim
    (λ a. absurd (h y refl (subst (λ m. IsIn (range_of p.scalars m) y) nk a.0)))
    (λ e. ap (λ ys. slice_index_or ys k (pos 0)) e)
    (put_cases (range_of p.scalars n) n y xs)
publish_kept p (n ∷ ns) (Some y ∷ draft) xs (suc i) k one at h =
    publish_kept p ns draft (put (range_of p.scalars n) n y xs) i k (λ a b m x y. omega (arith, one (suc a) (suc b) m x y)) at h
    ∙ ⊎_elim
    (λ a. ap (λ ys. slice_index_or ys k (pos 0)) a.1 ∙ get_or-set_other xs n k y (pos 0)
    (λ e. let z = one 0 (suc i) k (ap Some (sym e)) at in absurd (omega (arith, z))))
    (λ e. ap (λ ys. slice_index_or ys k (pos 0)) e)
    (put_cases (range_of p.scalars n) n y xs)
