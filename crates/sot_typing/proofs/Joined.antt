-- Places in lists that are joined end to end, and sums of sizes.
use Rattle.std.proofs.Common.{◌≡◌, ℕ, zero, suc, ◌+◌, ◌<◌, ◌≤◌, ◌⊎◌, inl, inr, List, [], ◌∷◌, ◌++◌, length, take, sum_by, flat_map, refl, sym, ap, subst, Some}
use Rattle.std.proofs.Common.{arith}
use Rattle.std.proofs.lemmas.List.Sums.{sum_by-cons}
use Rattle.std.proofs.lemmas.List.{length-append}
use Rattle.sot_lists.specs.Places.{At, Has}
use Rattle.sot_typing.specs.Resolved.{counted_from}
use Rattle.sot_typing.proofs.Lists.{at_left, at_right, of_append}

-- the sums up to a place, and past it
pub sum_next : {A : Type 0} (size : A → ℕ) (xs : List A) (k : ℕ) (x : A) → At xs k x → sum_by size (take (suc k) xs) ≡ sum_by size (take k xs) + size x
sum_next size [] k x a = cc
sum_next size (y ∷ ys) zero x a = (let q : y ≡ x = cc in ap (λ z. 0 + size z) q)
sum_next size (y ∷ ys) (suc k) x a =
    let r = sum_next size ys k x a in
    let p = sum_by-cons size y (take (suc k) ys) in
    let q = sum_by-cons size y (take k ys) in
    omega arith

pub sum_below : {A : Type 0} (size : A → ℕ) (xs : List A) (j k : ℕ) (x : A) → At xs j x → j < k → sum_by size (take j xs) + size x ≤ sum_by size (take k xs)
sum_below size [] j k x a l = cc
sum_below size (y ∷ ys) j zero x a l = absurd (omega arith)
sum_below size (y ∷ ys) zero (suc k) x a l =
    let e : size y ≡ size x = (let q : y ≡ x = cc in ap size q) in
    let p = sum_by-cons size y (take k ys) in
    omega arith
sum_below size (y ∷ ys) (suc j) (suc k) x a l =
    let r = sum_below size ys j k x a (omega arith) in
    let p = sum_by-cons size y (take k ys) in
    let q = sum_by-cons size y (take j ys) in
    omega arith

pub sum_within : {A : Type 0} (size : A → ℕ) (xs : List A) (j : ℕ) (x : A) → At xs j x → sum_by size (take j xs) + size x ≤ sum_by size xs
sum_within size [] j x a = cc
sum_within size (y ∷ ys) zero x a =
    let e : size y ≡ size x = (let q : y ≡ x = cc in ap size q) in
    let p = sum_by-cons size y ys in
    omega arith
sum_within size (y ∷ ys) (suc j) x a =
    let r = sum_within size ys j x a in
    let p = sum_by-cons size y ys in
    let q = sum_by-cons size y (take j ys) in
    omega arith

-- a place counted through sizes lies with one item alone
less : {A : Type 0} (size : A → ℕ) (xs : List A) (i j m n : ℕ) (x : A) → At xs i x → i < j → m < size x
    → sum_by size (take i xs) + m ≡ sum_by size (take j xs) + n → ⊥
less size xs i j m n x a l b e = (let r = sum_below size xs i j x a l in absurd (omega arith))

-- two places are one, or one comes first
pub order : (i j : ℕ) → (i ≡ j) ⊎ ((i < j) ⊎ (j < i))
order zero zero = inl refl
order zero (suc j) = inr (inl (omega arith))
order (suc i) zero = inr (inr (omega arith))
order (suc i) (suc j) = by (order i j)
  where
    by : (i ≡ j) ⊎ ((i < j) ⊎ (j < i)) → (suc i ≡ suc j) ⊎ ((suc i < suc j) ⊎ (suc j < suc i))
    by (inl e) = inl (ap suc e)
    by (inr (inl l)) = inr (inl (omega arith))
    by (inr (inr l)) = inr (inr (omega arith))

pub sum_place : {A : Type 0} (size : A → ℕ) (xs : List A) (i j m n : ℕ) (x y : A) → At xs i x → At xs j y → m < size x → n < size y
    → sum_by size (take i xs) + m ≡ sum_by size (take j xs) + n → i ≡ j
sum_place size xs i j m n x y a b l k e = by (order i j)
  where
    by : (i ≡ j) ⊎ ((i < j) ⊎ (j < i)) → i ≡ j
    by (inl q) = q
    by (inr (inl q)) = absurd (less size xs i j m n x a q l e)
    by (inr (inr q)) = absurd (less size xs j i n m y b q k (sym e))

-- places in lists that are joined, each of a size that is known
pub at_joined : {A B : Type 0} (f : A → List B) (size : A → ℕ) (xs : List A) (j m : ℕ) (x : A) (y : B) → ((i : ℕ) (z : A) → At xs i z → length (f z) ≡ size z)
    → At xs j x → At (f x) m y → At (flat_map f xs) (sum_by size (take j xs) + m) y
at_joined f size [] j m x y h a b = cc
at_joined f size (z ∷ xs) zero m x y h a b =
    let e : z ≡ x = cc in
    let q : m ≡ 0 + m = omega arith in
    subst (λ n. At (f z ++ flat_map f xs) n y) q (at_left (f z) (flat_map f xs) m y (subst (λ w. At (f w) m y) (sym e) b))
at_joined f size (z ∷ xs) (suc j) m x y h a b =
    let r = at_right (f z) (flat_map f xs) _ y (at_joined f size xs j m x y (λ i w c. h (suc i) w c) a b) in
    let p = sum_by-cons size z (take j xs) in
    let l = h 0 z refl in
    let q : length (f z) + (sum_by size (take j xs) + m) ≡ sum_by size (take (suc j) (z ∷ xs)) + m = omega arith in
    subst (λ n. At (f z ++ flat_map f xs) n y) q r

pub of_joined : {A B : Type 0} (f : A → List B) (size : A → ℕ) (xs : List A) (k : ℕ) (y : B) → ((i : ℕ) (z : A) → At xs i z → length (f z) ≡ size z)
    → At (flat_map f xs) k y → (j : ℕ) × (x : A) × (m : ℕ) × At xs j x × At (f x) m y × (k ≡ sum_by size (take j xs) + m)
of_joined f size [] k y h a = cc
of_joined {A = A} f size (z ∷ xs) k y h a = by (of_append (f z) (flat_map f xs) k y a) (λ i b. of_joined f size xs i y (λ i w c. h (suc i) w c) b)
  where
    by : At (f z) k y ⊎ ((j : ℕ) × At (flat_map f xs) j y × (k ≡ length (f z) + j))
        → ((i : ℕ) → At (flat_map f xs) i y → (j : ℕ) × (x : A) × (m : ℕ) × At xs j x × At (f x) m y × (i ≡ sum_by size (take j xs) + m))
        → (j : ℕ) × (x : A) × (m : ℕ) × At (z ∷ xs) j x × At (f x) m y × (k ≡ sum_by size (take j (z ∷ xs)) + m)
    by (inl b) more = (0, z, k, refl, b, omega arith)
    by (inr b) more =
        let r = more b.0 b.1 in
        let p = sum_by-cons size z (take r.0 xs) in
        let l = h 0 z refl in
        let e = b.2 in
        let q = r.5 in
        (suc r.0, r.1, r.2, r.3, r.4, omega arith)

pub length_joined : {A B : Type 0} (f : A → List B) (size : A → ℕ) (xs : List A) → ((i : ℕ) (z : A) → At xs i z → length (f z) ≡ size z)
    → length (flat_map f xs) ≡ sum_by size xs
length_joined f size [] h = refl
length_joined f size (z ∷ xs) h =
    let r = length_joined f size xs (λ i w c. h (suc i) w c) in
    let l = h 0 z refl in
    let p = sum_by-cons size z xs in
    let q = length-append (f z) (flat_map f xs) in
    omega arith

-- what is in a joined list
pub has_joined : {A B : Type 0} (f : A → List B) (xs : List A) (x : A) (y : B) → Has xs x → Has (f x) y → Has (flat_map f xs) y
has_joined f [] x y (j, a) h = cc
has_joined f (z ∷ xs) x y (zero, a) (m, b) =
    let e : z ≡ x = cc in
    (m, at_left (f z) (flat_map f xs) m y (subst (λ w. At (f w) m y) (sym e) b))
has_joined f (z ∷ xs) x y (suc j, a) h =
    let r = has_joined f xs x y (j, a) h in
    (length (f z) + r.0, at_right (f z) (flat_map f xs) r.0 y r.1)

pub of_has_joined : {A B : Type 0} (f : A → List B) (xs : List A) (y : B) → Has (flat_map f xs) y → (x : A) × Has xs x × Has (f x) y
of_has_joined f xs y (k, a) =
    let r = of_joined f (λ z. length (f z)) xs k y (λ i z c. refl) a in
    (r.1, (r.0, r.3), (r.2, r.4))

-- numbers in a row
pub length_counted : (a n : ℕ) → length (counted_from a n) ≡ n
length_counted a zero = refl
length_counted a (suc n) = ap suc (length_counted (suc a) n)

pub at_counted : (a n k : ℕ) → k < n → At (counted_from a n) k (a + k)
at_counted a zero k l = absurd (omega arith)
at_counted a (suc n) zero l = (let e : a ≡ a + 0 = omega arith in ap (λ z. Some z) e)
at_counted a (suc n) (suc k) l =
    (let e : suc a + k ≡ a + suc k = omega arith in subst (λ z. At (counted_from (suc a) n) k z) e (at_counted (suc a) n k (omega arith)))

pub of_counted : (a n k z : ℕ) → At (counted_from a n) k z → (k < n) × (z ≡ a + k)
of_counted a zero k z h = cc
of_counted a (suc n) zero z h = (omega arith, (let e : a ≡ z = cc in omega arith))
of_counted a (suc n) (suc k) z h = (let r = of_counted (suc a) n k z h in (let x = r.0 in omega arith, let y = r.1 in omega arith))
