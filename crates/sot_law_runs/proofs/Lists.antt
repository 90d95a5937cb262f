-- Lists with a part for each element of another one, and flags that are set.
use Rattle.std.proofs.Common.{◌≡◌, ℕ, zero, suc, ◌<◌, ◌≤ℤ◌, ◌⊎◌, inl, inr, ⊎_elim, Bool, true, false, List, [], ◌∷◌, length, map, refl, ap, subst, arith}
use Rattle.std.specs.Prelude.{slice_index_or, slice_set}
use Rattle.std.proofs.lemmas.Bool.{false≢true}
use Rattle.std.proofs.lemmas.Option.{none-some, same_Some}
use Rattle.sot_lists.specs.Places.{At}
use Rattle.sot_box.specs.Sides.{Side, AreOrdered}

-- some element is of the one kind, or all are of the other
pub some_or_all : {A : Type 0} (xs : List A) (P Q : ℕ → A → Type 0) → ((k : ℕ) (x : A) → At xs k x → P k x ⊎ Q k x)
    → ((k : ℕ) × (x : A) × At xs k x × P k x) ⊎ ((k : ℕ) (x : A) → At xs k x → Q k x)
some_or_all [] P Q h = inr (λ k x at. absurd (none-some x at))
some_or_all (y ∷ ys) P Q h =
    ⊎_elim
    (λ here. inl (0, y, refl, here))
    (λ not_here. ⊎_elim
    (λ there. inl (suc there.0, there.1, there.2, there.3))
    (λ none. inr (all not_here none))
    (some_or_all ys (λ k. P (suc k)) (λ k. Q (suc k)) (λ k x at. h (suc k) x at)))
    (h 0 y refl)
  where
    all : Q 0 y → ((k : ℕ) (x : _) → At ys k x → Q (suc k) x) → (k : ℕ) (x : _) → At (y ∷ ys) k x → Q k x
    all first rest zero x at = subst (Q 0) (same_Some y x at) first
    all first rest (suc k) x at = rest k x at

-- how many flags are set
pub set_count : List Bool → ℕ
set_count [] = 0
set_count (true ∷ xs) = suc (set_count xs)
set_count (false ∷ xs) = set_count xs

-- a flag that is set is there
pub set_below : (xs : List Bool) (n : ℕ) → slice_index_or xs n false ≡ true → n < length xs
set_below [] n e = absurd (false≢true e)
set_below (x ∷ xs) zero e = omega arith
set_below (x ∷ xs) (suc n) e = (let h = set_below xs n e in omega (arith, h))

-- a flag that is taken back is one less
pub set_less : (xs : List Bool) (n : ℕ) → slice_index_or xs n false ≡ true → suc (set_count (slice_set xs n false)) ≡ set_count xs
unfolding set_count
set_less [] n e = absurd (false≢true e)
set_less (true ∷ xs) zero e = refl
set_less (false ∷ xs) zero e = absurd (false≢true e)
set_less (true ∷ xs) (suc n) e = ap suc (set_less xs n e)
set_less (false ∷ xs) (suc n) e = set_less xs n e

pub ordered_map : {A : Type 0} (f : A → Side) (xs : List A) → ((k : ℕ) (x : A) → At xs k x → (f x).lo ≤ℤ (f x).hi) → AreOrdered (map f xs)
ordered_map f [] h = tt
ordered_map f (x ∷ xs) h = (h 0 x refl, ordered_map f xs (λ k y at. h (suc k) y at))
