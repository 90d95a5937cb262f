-- Lists from a place on, and what is said of their elements.
use Rattle.std.specs.Prelude.{slice_get}
use Rattle.std.proofs.lemmas.Bool.{cases_lt}
use Rattle.std.proofs.Common.{⊎_elim, arith, ◌≡◌, ℕ, ◌+◌, ◌<◌, ℤ, Bool, IsTrue, FitsSigned, w64, to_z, of_z, to_z-of_z, ◌↔◌, List, ◌∷◌, length, drop, sym, ap}
use Rattle.std.proofs.Common.{◌∙◌, subst}
use Rattle.std.proofs.lemmas.Option.{same_Some}
use Rattle.sot_box.specs.Sides.{Side, IsIn}
use Rattle.sot_lists.specs.Places.{At}
use Rattle.sot_box.specs.Boxes.{IsWithin}
use Rattle.sot_lang.specs.declared.tables.PlantInfo.{PlantInfo}
use Rattle.sot_lists.proofs.Places.{drop_at}
use Rattle.sot_world.specs.Events.{IsInBounds, noise_count}

-- what is within from a place on is what is within there and from the next place on
pub within_from : (rs : List Side) (xs : List ℤ) (i : ℕ) (r : Side) (x : ℤ) → At rs i r → At xs i x
    → IsWithin (drop i rs) (drop i xs) ↔ (IsIn r x × IsWithin (drop (i + 1) rs) (drop (i + 1) xs))
within_from rs xs i r x at_r at_x = (
  (λ w. let v = subst (λ ys. IsWithin (r ∷ drop (i + 1) rs) ys) (drop_at xs i x at_x) (subst (λ qs. IsWithin qs (drop i xs)) (drop_at rs i r at_r) w) in
      ((v.0, v.1), v.2)),
  (λ h. subst (λ qs. IsWithin qs (drop i xs)) (sym (drop_at rs i r at_r))
      (subst (λ ys. IsWithin (r ∷ drop (i + 1) rs) ys) (sym (drop_at xs i x at_x)) (h.0.0, h.0.1, h.1))),
)

-- the same for the disturbances of several plants
pub bounds_from : (plants : List PlantInfo) (i : ℕ) (plant : PlantInfo) (w : List ℤ) → At plants i plant
    → IsInBounds (drop i plants) w ≡ IsInBounds (plant ∷ drop (i + 1) plants) w
bounds_from plants i plant w at = ap (λ ks. IsInBounds ks w) (drop_at plants i plant at)

pub noise_from : (plants : List PlantInfo) (i : ℕ) (plant : PlantInfo) → At plants i plant
    → noise_count (drop i plants) ≡ length plant.noise.items + noise_count (drop (i + 1) plants)
noise_from plants i plant at = ap noise_count (drop_at plants i plant at)

-- numbers in 64 bits are what their words stand for
pub words_in : (lo hi z : ℤ) → FitsSigned w64 lo → FitsSigned w64 hi → FitsSigned w64 z
    → IsIn (record { lo = to_z w64 (of_z w64 lo); hi = to_z w64 (of_z w64 hi) }) (to_z w64 (of_z w64 z)) ≡ IsIn (record { lo = lo; hi = hi }) z
words_in lo hi z a b c =
    ap (λ x. IsIn (record { lo = x; hi = to_z w64 (of_z w64 hi) }) (to_z w64 (of_z w64 z))) (to_z-of_z a)
    ∙ ap (λ x. IsIn (record { lo = lo; hi = x }) (to_z w64 (of_z w64 z))) (to_z-of_z b)
    ∙ ap (IsIn (record { lo = lo; hi = hi })) (to_z-of_z c)

-- the answer of a test of words
pub tested : (b : Bool) (A B : Type 0) → A ≡ B → (IsTrue b ↔ A) → IsTrue b ↔ B
tested b A B same t = subst (λ X. IsTrue b ↔ X) same t

-- all up to a place and the one there
pub one_further : (P : ℕ → ℤ → Type 0) (value : List ℤ) (i : ℕ) (x : ℤ) → At value i x → P i x → ((k : ℕ) (z : ℤ) → k < i → At value k z → P k z)
    → (k : ℕ) (z : ℤ) → k < i + 1 → At value k z → P k z
one_further P value i x at here before k z lt at_k =
    ⊎_elim
    (λ less. before k z less at_k)
    (λ more.
    let e : k ≡ i = omega (arith, lt, more) in
    let same : x ≡ z = same_Some x z (sym at ∙ ap (slice_get value) (sym e) ∙ at_k) in
    subst (λ n. P n z) (sym e) (subst (P i) same here))
    (cases_lt k i)
