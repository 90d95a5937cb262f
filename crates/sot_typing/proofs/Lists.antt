-- Places in lists that are made of others.
use Rattle.std.proofs.Common.{◌≡◌, ◌∙◌, ℕ, zero, suc, ◌+◌, ◌⊎◌, inl, inr, List, [], ◌∷◌, ◌++◌, length, zip, filter_map, refl, ap, subst, Option, Some, None}
use Rattle.std.proofs.Common.{true, false, Bool, ◌||◌, arith}
use Rattle.std.specs.List.{list_any, cons_option}
pub use Rattle.std.proofs.lemmas.Option.{slice_get_within as at_lt}
pub use Rattle.sot_lists.proofs.Places.{at_map, at_same, at_below, at_mapped}
use Rattle.sot_lists.specs.Places.{At}
use Rattle.sot_syntax_tree.specs.Formed.{Each}

-- of two lists one behind the other
pub at_left : {A : Type 0} (xs ys : List A) (k : ℕ) (x : A) → At xs k x → At (xs ++ ys) k x
at_left [] ys k x a = cc
at_left (z ∷ xs) ys zero x a = a
at_left (z ∷ xs) ys (suc k) x a = at_left xs ys k x a

pub at_right : {A : Type 0} (xs ys : List A) (k : ℕ) (x : A) → At ys k x → At (xs ++ ys) (length xs + k) x
at_right [] ys k x a = (let e : k ≡ 0 + k = omega arith in subst (λ n. At ys n x) e a)
at_right (z ∷ xs) ys k x a = (let e : suc (length xs + k) ≡ suc (length xs) + k = omega arith in subst (λ n. At (z ∷ (xs ++ ys)) n x) e (at_right xs ys k x a))

pub of_append : {A : Type 0} (xs ys : List A) (k : ℕ) (x : A) → At (xs ++ ys) k x → At xs k x ⊎ ((j : ℕ) × At ys j x × (k ≡ length xs + j))
of_append [] ys k x a = inr (k, a, omega arith)
of_append (z ∷ xs) ys zero x a = inl a
of_append (z ∷ xs) ys (suc k) x a = step (of_append xs ys k x a)
  where
    step : At xs k x ⊎ ((j : ℕ) × At ys j x × (k ≡ length xs + j)) → At xs k x ⊎ ((j : ℕ) × At ys j x × (suc k ≡ suc (length xs) + j))
    step (inl h) = inl h
    step (inr h) = inr (h.0, h.1, (let e = h.2 in omega arith))

-- what each item satisfies
pub each_at : {A : Type 0} (P : A → Type 0) (xs : List A) (k : ℕ) (x : A) → Each P xs → At xs k x → P x
each_at P [] k x h a = cc
each_at P (y ∷ ys) zero x h a = (let e : y ≡ x = cc in subst P e h.0)
each_at P (y ∷ ys) (suc k) x h a = each_at P ys k x h.1 a

-- a test that some item passes, and one that none does
pub any_at : {A : Type 0} (f : A → Bool) (xs : List A) (k : ℕ) (x : A) → At xs k x → f x ≡ true → list_any f xs ≡ true
any_at f [] k x a h = cc
any_at f (y ∷ ys) zero x a h = (let e : y ≡ x = cc in ap (λ z. f z || list_any f ys) e ∙ ap (λ b. b || list_any f ys) h)
any_at f (y ∷ ys) (suc k) x a h = by (f y) (list_any f ys) (any_at f ys k x a h)
  where
    by : (a b : Bool) → b ≡ true → (a || b) ≡ true
    by true b e = refl
    by false b e = e

pub any_of : {A : Type 0} (f : A → Bool) (xs : List A) → list_any f xs ≡ true → (k : ℕ) × (x : A) × At xs k x × (f x ≡ true)
any_of f [] h = cc
any_of {A = A} f (y ∷ ys) h = by (f y) refl h (λ q. any_of f ys q)
  where
    by : (b : Bool) → f y ≡ b → (b || list_any f ys) ≡ true → (list_any f ys ≡ true → (k : ℕ) × (x : A) × At ys k x × (f x ≡ true))
        → (k : ℕ) × (x : A) × At (y ∷ ys) k x × (f x ≡ true)
    by true e q more = (0, y, refl, e)
    by false e q more = (let r = more q in (suc r.0, r.1, r.2, r.3))

-- pairs of two lists
pub at_zip : {A B : Type 0} (xs : List A) (ys : List B) (k : ℕ) (x : A) (y : B) → At xs k x → At ys k y → At (zip xs ys) k (x, y)
at_zip [] ys k x y a b = cc
at_zip (u ∷ xs) [] k x y a b = cc
at_zip (u ∷ xs) (v ∷ ys) zero x y a b = (let e : u ≡ x = cc in let q : v ≡ y = cc in ap (λ z. Some (z, v)) e ∙ ap (λ z. Some (x, z)) q)
at_zip (u ∷ xs) (v ∷ ys) (suc k) x y a b = at_zip xs ys k x y a b

pub of_zip : {A B : Type 0} (xs : List A) (ys : List B) (k : ℕ) (z : A × B) → At (zip xs ys) k z → At xs k z.0 × At ys k z.1
of_zip [] ys k z a = cc
of_zip (u ∷ xs) [] k z a = cc
of_zip (u ∷ xs) (v ∷ ys) zero z a = (let e : (u, v) ≡ z = cc in (ap (λ w. Some w.0) e, ap (λ w. Some w.1) e))
of_zip (u ∷ xs) (v ∷ ys) (suc k) z a = of_zip xs ys k z a

pub length_zip : {A B : Type 0} (xs : List A) (ys : List B) → length xs ≡ length ys → length (zip xs ys) ≡ length xs
length_zip [] ys e = refl
length_zip (u ∷ xs) [] e = absurd (omega arith)
length_zip (u ∷ xs) (v ∷ ys) e = ap suc (length_zip xs ys (omega arith))

-- what is kept of a list
pub at_kept : {A B : Type 0} (f : A → Option B) (xs : List A) (k : ℕ) (x : A) (y : B) → At xs k x → f x ≡ Some y → (j : ℕ) × At (filter_map f xs) j y
at_kept f [] k x y a e = cc
at_kept {B = B} f (z ∷ xs) zero x y a e = by (f z) (let q : z ≡ x = cc in ap f q ∙ e)
  where
    by : (o : Option B) → o ≡ Some y → (j : ℕ) × At (cons_option o (filter_map f xs)) j y
    by None q = cc
    by (Some w) q = (0, q)
at_kept {B = B} f (z ∷ xs) (suc k) x y a e = by (f z) (at_kept f xs k x y a e)
  where
    by : (o : Option B) → (j : ℕ) × At (filter_map f xs) j y → (j : ℕ) × At (cons_option o (filter_map f xs)) j y
    by None q = q
    by (Some w) q = (suc q.0, q.1)

pub of_kept : {A B : Type 0} (f : A → Option B) (xs : List A) (j : ℕ) (y : B) → At (filter_map f xs) j y → (k : ℕ) × (x : A) × At xs k x × (f x ≡ Some y)
of_kept f [] j y a = cc
of_kept {A = A} {B = B} f (z ∷ xs) j y a = by (f z) refl j a (λ i b. of_kept f xs i y b)
  where
    later : (k : ℕ) × (x : A) × At xs k x × (f x ≡ Some y) → (k : ℕ) × (x : A) × At (z ∷ xs) k x × (f x ≡ Some y)
    later r = (suc r.0, r.1, r.2, r.3)

    by : (o : Option B) → f z ≡ o → (j : ℕ) → At (cons_option o (filter_map f xs)) j y
        → ((i : ℕ) → At (filter_map f xs) i y → (k : ℕ) × (x : A) × At xs k x × (f x ≡ Some y)) → (k : ℕ) × (x : A) × At (z ∷ xs) k x × (f x ≡ Some y)
    by None e j a more = later (more j a)
    by (Some w) e zero a more = (0, z, refl, e ∙ a)
    by (Some w) e (suc j) a more = later (more j a)
