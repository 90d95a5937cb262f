-- What stands at the places of a list.
use Rattle.std.proofs.Common.{◌≡◌, ℕ, zero, suc, ◌+◌, ◌<◌, ◌⊎◌, inl, inr, ⊎_elim, List, [], ◌∷◌, ◌++◌, Some}
use Rattle.std.proofs.Common.{subst, map, length, drop, get_or, refl, sym, ap, arith}
use Rattle.std.proofs.Common.{add-one, ap₂}
use Rattle.std.specs.Prelude.{slice_index_or}
use Rattle.std.proofs.lemmas.Option.{same_Some, none-some, slice_get_read, slice_get_cases, get_or_from_slice_get}
use Rattle.std.proofs.lemmas.Bool.{cases_eq}
use Rattle.sot_lists.specs.Places.{At, Has}

pub at_same : {A : Type 0} (xs : List A) (k : ℕ) (x y : A) → At xs k x → At xs k y → x ≡ y
at_same xs k x y a b = cc

pub at_map : {A B : Type 0} (f : A → B) (xs : List A) (k : ℕ) (x : A) → At xs k x → At (map f xs) k (f x)
at_map f [] k x a = cc
at_map f (y ∷ ys) zero x a = (let e : y ≡ x = cc in ap (λ z. Some (f z)) e)
at_map f (y ∷ ys) (suc k) x a = at_map f ys k x a

-- what stands in a mapped list at a place is the image of what stands there in the list
pub at_mapped : {A B : Type 0} (f : A → B) (xs : List A) (k : ℕ) (y : B) → At (map f xs) k y → (x : A) × At xs k x × (f x ≡ y)
at_mapped f [] k y at = absurd cc
at_mapped f (x ∷ xs) zero y at = (x, refl, cc)
at_mapped f (x ∷ xs) (suc k) y at = at_mapped f xs k y at

-- a list has something at each place below its length
pub at_below : {A : Type 0} (xs : List A) (k : ℕ) → k < length xs → (x : A) × At xs k x
at_below xs k lt = ⊎_elim (λ inside. (inside.0, inside.2)) (λ past. absurd (omega (arith, past.0))) (slice_get_cases xs k).1

-- an element that was read, in an equal list
pub read_at : {A : Type 0} (xs ys : List A) (k : ℕ) (x : A) → xs ≡ ys → k < length ys → x ≡ get_or xs k x → At ys k x
read_at xs ys k x same lt is = slice_get_read ys (length ys) k x refl lt (subst (λ l. x ≡ get_or l k x) same is)

-- an element that was read at a place is the one there, whatever stands for none
pub read_or : {A : Type 0} (xs : List A) (k : ℕ) (x d : A) → k < length xs → x ≡ get_or xs k x → x ≡ slice_index_or xs k d
read_or xs k x d lt is = sym (get_or_from_slice_get xs k x d (slice_get_read xs (length xs) k x refl lt is))

pub drop_at : {A : Type 0} (xs : List A) (i : ℕ) (x : A) → At xs i x → drop i xs ≡ x ∷ drop (i + 1) xs
drop_at xs i x at = rw (add-one i) (from xs i at)
  where
    from : (ys : List _) (k : ℕ) → At ys k x → drop k ys ≡ x ∷ drop (suc k) ys
    from [] k e = absurd (none-some x e)
    from (y ∷ ys) zero e = ap (λ z. z ∷ ys) (same_Some y x e)
    from (y ∷ ys) (suc k) e = from ys k e

pub has_cases : (xs : List ℕ) (n : ℕ) → Has xs n ⊎ (Has xs n → ⊥)
has_cases [] n = inr (λ h. none-some n h.1)
has_cases (x ∷ xs) n =
    ⊎_elim
    (λ e. inl (0, ap Some e))
    (λ ne. ⊎_elim (λ h. inl (suc h.0, h.1)) (λ no'. inr (λ h. at_tail ne no' h.0 h.1)) (has_cases xs n))
    (cases_eq x n)
  where
    at_tail : (x ≡ n → ⊥) → (Has xs n → ⊥) → (k : ℕ) → At (x ∷ xs) k n → ⊥
    at_tail ne no' zero a = ne (same_Some x n a)
    at_tail ne no' (suc k) a = no' (k, a)

pub map_same : {A : Type 0} (f g : ℕ → A) (ks : List ℕ) → ((k : ℕ) → Has ks k → f k ≡ g k) → map f ks ≡ map g ks
map_same f g [] h = refl
map_same f g (k ∷ ks) h = (let a = h k (0, refl) in let b = map_same f g ks (λ n has. h n (suc has.0, has.1)) in cc)

-- what is read at a place of a mapped list is the image of what is read there in the list
pub index_or-map : {A B : Type 0} (f : A → B) (xs : List A) (k : ℕ) (d : A) (e : B) → k < length xs → slice_index_or (map f xs) k e ≡ f (get_or xs k d)
index_or-map f [] k d e lt = absurd (omega arith)
index_or-map f (x ∷ xs) zero d e lt = refl
index_or-map f (x ∷ xs) (suc k) d e lt = index_or-map f xs k d e (omega arith)

-- lists of one length with the same at each place are one
pub same_list : {A : Type 0} (xs ys : List A) → length xs ≡ length ys → ((m : ℕ) (x y : A) → At xs m x → At ys m y → x ≡ y) → xs ≡ ys
same_list [] [] count each = refl
same_list [] (y ∷ ys) count each = absurd (omega (arith, count))
same_list (x ∷ xs) [] count each = absurd (omega (arith, count))
same_list (x ∷ xs) (y ∷ ys) count each = ap₂ (λ z zs. z ∷ zs) (each 0 x y refl refl) (same_list xs ys (omega (arith, count)) (λ m. each (suc m)))

-- .. and so are lists of one length where what stands in one stands in the other
pub same_items : {A : Type 0} (xs ys : List A) → length xs ≡ length ys → ((k : ℕ) (x : A) → At xs k x → At ys k x) → xs ≡ ys
same_items xs ys count each = same_list xs ys count (λ m x y here there. at_same ys m x y (each m x here) there)

-- what stands in the first of two lists stands there in the two as one list ..
pub at_front : {A : Type 0} (xs ys : List A) (k : ℕ) (x : A) → At xs k x → At (xs ++ ys) k x
at_front [] ys k x at = absurd (none-some x at)
at_front (y ∷ xs) ys zero x at = at
at_front (y ∷ xs) ys (suc k) x at = at_front xs ys k x at

-- .. and nothing else does at its places
pub at_in_front : {A : Type 0} (xs ys : List A) (k : ℕ) (x : A) → k < length xs → At (xs ++ ys) k x → At xs k x
at_in_front [] ys k x lt at = absurd (omega arith)
at_in_front (y ∷ xs) ys zero x lt at = at
at_in_front (y ∷ xs) ys (suc k) x lt at = at_in_front xs ys k x (omega arith) at

-- what stands in the second stands as far behind the first
pub at_behind : {A : Type 0} (xs ys : List A) (k : ℕ) (x : A) → At ys k x → At (xs ++ ys) (length xs + k) x
at_behind [] ys k x at = (let same : k ≡ 0 + k = omega arith in subst (λ n. At ys n x) same at)
at_behind (y ∷ xs) ys k x at =
    let step : At (y ∷ (xs ++ ys)) (suc (length xs + k)) x = at_behind xs ys k x at in
    let same : suc (length xs + k) ≡ length (y ∷ xs) + k = omega arith in
    subst (λ n. At (y ∷ (xs ++ ys)) n x) same step
