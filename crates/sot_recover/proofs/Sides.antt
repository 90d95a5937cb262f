-- Places of changed, cut and shortened lists; boxes around boxes.
use Rattle.std.proofs.Common.{◌≡◌, ℕ, zero, suc, ◌+◌, ◌-◌, ◌<◌, ◌≤◌, ◌⊎◌, inl, inr, ⊎_elim, List, [], ◌∷◌, ◌++◌, ◌*◌, length, refl, sym, ap, subst}
use Rattle.std.proofs.Common.{arith, take, drop}
use Rattle.std.specs.Prelude.{◌≤ℤ◌, slice_set}
use Rattle.std.proofs.lemmas.Option.{same_Some, none-some, slice_get_within}
use Rattle.std.proofs.lemmas.Int.{ints}
use Rattle.sot_lists.specs.Places.{At}
use Rattle.sot_lists.proofs.Places.{at_below, at_same}
use Rattle.sot_box.specs.Sides.{Side}
use Rattle.sot_recover.specs.Meeting.{Meet, IsAround, IsAroundAll}
use Rattle.sot_recover.specs.Blocks.{AreHullsOf}

pub taken_at : {A : Type 0} (n : ℕ) (xs : List A) (k : ℕ) (x : A) → At (take n xs) k x → At xs k x
taken_at zero xs k x at = absurd (none-some x at)
taken_at (suc n) [] k x at = absurd (none-some x at)
taken_at (suc n) (y ∷ ys) zero x at = at
taken_at (suc n) (y ∷ ys) (suc k) x at = taken_at n ys k x at

pub at_taken : {A : Type 0} (n : ℕ) (xs : List A) (k : ℕ) (x : A) → k < n → At xs k x → At (take n xs) k x
at_taken zero xs k x lt at = absurd (omega (arith, lt))
at_taken (suc n) [] k x lt at = absurd (none-some x at)
at_taken (suc n) (y ∷ ys) zero x lt at = at
at_taken (suc n) (y ∷ ys) (suc k) x lt at = at_taken n ys k x (omega (arith, lt)) at

pub dropped_at : {A : Type 0} (n : ℕ) (xs : List A) (k : ℕ) (x : A) → At (drop n xs) k x → At xs (n + k) x
dropped_at zero xs k x at = (let e : k ≡ 0 + k = omega arith in subst (λ j. At xs j x) e at)
dropped_at (suc n) [] k x at = absurd (none-some x at)
dropped_at (suc n) (y ∷ ys) k x at = (let e : suc (n + k) ≡ suc n + k = omega arith in subst (λ j. At (y ∷ ys) j x) e (dropped_at n ys k x at))

pub at_dropped : {A : Type 0} (n : ℕ) (xs : List A) (k : ℕ) (x : A) → n ≤ k → At xs k x → At (drop n xs) (k - n) x
at_dropped zero xs k x le at = (let e : k ≡ k - 0 = omega arith in subst (λ j. At xs j x) e at)
at_dropped (suc n) [] k x le at = absurd (none-some x at)
at_dropped (suc n) (y ∷ ys) zero x le at = absurd (omega (arith, le))
at_dropped (suc n) (y ∷ ys) (suc k) x le at =
    (let e : k - n ≡ suc k - suc n = omega arith in subst (λ j. At (drop n ys) j x) e (at_dropped n ys k x (omega (arith, le)) at))

-- what stands in a changed list: at the changed place the new one, and elsewhere what stood there
pub at_put : (xs : List Side) (i : ℕ) (v : Side) (k : ℕ) (r : Side) → At (slice_set xs i v) k r → ((k ≡ i) × (r ≡ v)) ⊎ ((k ≡ i → ⊥) × At xs k r)
at_put [] i v k r at = absurd (none-some r at)
at_put (x ∷ xs) zero v zero r at = inl (refl, sym (same_Some v r at))
at_put (x ∷ xs) zero v (suc k) r at = inr (λ e. omega (arith, e), at)
at_put (x ∷ xs) (suc i) v zero r at = inr (λ e. omega (arith, e), at)
at_put (x ∷ xs) (suc i) v (suc k) r at = ⊎_elim (λ e. inl (ap suc e.0, e.1)) (λ o. inr (λ e. o.0 (omega (arith, e)), o.1)) (at_put xs i v k r at)

-- each of the first sides of a list is around that of a box
abbrev pub AroundFirst : List Side → List Side → ℕ → Type 0
AroundFirst sides b i = (k : ℕ) (r q : Side) → k < i → At sides k r → At b k q → (r.lo ≤ℤ q.lo) × (q.hi ≤ℤ r.hi)

pub around_more : (sides b : List Side) (i : ℕ) (v x : Side) → AroundFirst sides b i → At b i x → v.lo ≤ℤ x.lo → x.hi ≤ℤ v.hi
    → AroundFirst (slice_set sides i v) b (i + 1)
around_more sides b i v x old at_x low high k r q below at_r at_q = ⊎_elim
    (λ (here : (k ≡ i) × (r ≡ v)).
    let same : x ≡ q = at_same b i x q at_x (subst (λ n. At b n q) here.0 at_q) in (
      subst (λ (y : Side). y.lo ≤ℤ q.lo) (sym here.1) (subst (λ (y : Side). v.lo ≤ℤ y.lo) same low),
      subst (λ (y : Side). q.hi ≤ℤ y.hi) (sym here.1) (subst (λ (y : Side). y.hi ≤ℤ v.hi) same high),
    ))
    (λ o. let ne = o.0 in old k r q (omega (arith, below, ne)) o.1 at_q)
    (at_put sides i v k r at_r)

-- a box of the first sides
pub around_whole : (sides b hull : List Side) (n i : ℕ) → AroundFirst sides b i → length b ≤ i → hull ≡ take n sides → IsAround hull b
around_whole sides b hull n i old le is k r q at_r at_q =
    (let lt = slice_get_within b k q at_q in old k r q (omega (arith, lt, le)) (taken_at n sides k r (subst (λ xs. At xs k r) is at_r)) at_q)

-- a box is around what a box is around that it is around
pub around_on : (outer hull b : List Side) → length hull ≡ length b → IsAround outer hull → IsAround hull b → IsAround outer b
around_on outer hull b same o h k r q at_r at_q =
    let lt : k < length hull = (let a = slice_get_within b k q at_q in omega (arith, a, same)) in
    let x = at_below hull k lt in
    let first = o k r x.0 at_r x.1 in
    let second = h k x.0 q x.1 at_q in
    (omega (arith, ints, first.0, second.0), omega (arith, ints, first.1, second.1))

-- what meets a box meets the box around it
pub meet_around : (hull c b : List Side) → length hull ≡ length c → IsAround hull c → Meet c b → Meet hull b
meet_around hull c b same o m k r q at_r at_q =
    let lt : k < length c = (let a = slice_get_within hull k r at_r in omega (arith, a, same)) in
    let x = at_below c k lt in
    let first = o k r x.0 at_r x.1 in
    let second = m k x.0 q x.1 at_q in
    (omega (arith, ints, first.0, second.0), omega (arith, ints, first.1, second.1))

-- what stands in a list with one more behind it
at_append : {A : Type 0} (xs : List A) (x : A) (k : ℕ) (y : A) → At (xs ++ x ∷ []) k y → At xs k y ⊎ ((k ≡ length xs) × (y ≡ x))
at_append [] x zero y at = inr (refl, sym (same_Some x y at))
at_append [] x (suc k) y at = absurd (none-some y at)
at_append (z ∷ zs) x zero y at = inl at
at_append (z ∷ zs) x (suc k) y at = ⊎_elim (λ o. inl o) (λ e. inr (ap suc e.0, e.1)) (at_append zs x k y at)

-- one block more has its hull
pub block_more :
    (boxes hulls : List (List Side)) (from size : ℕ) (h : List Side) → from ≡ length hulls * 64
    → ((i : ℕ) → from ≤ i → i < from + 64 → i < length boxes → i - from < size) →
    IsAroundAll h (take size (drop from boxes)) → AreHullsOf boxes hulls → AreHullsOf boxes (hulls ++ h ∷ [])
block_more boxes hulls from size h start reach around old k i g b at_h at_b in_block = ⊎_elim
    (λ (before : At hulls k g). old k i g b before at_b in_block)
    (λ (new : (k ≡ length hulls) × (g ≡ h)).
    let e = new.0 in
    let low : from ≤ i = (let a = in_block.0 in omega (arith, a, e, start)) in
    let top : i < from + 64 = (let a = in_block.1 in omega (arith, a, e, start)) in
    let below = reach i low top (slice_get_within boxes i b at_b) in
    let there : At (take size (drop from boxes)) (i - from) b = at_taken size (drop from boxes) (i - from) b below (at_dropped from boxes i b low at_b) in
    let w = around (i - from) b there in
    subst (λ q. (length q ≡ length b) × IsAround q b) (sym new.1) w)
    (at_append hulls h k g at_h)
