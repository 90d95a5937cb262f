-- Flags, and lists of places.
use Rattle.std.proofs.Common.{◌≡◌, ℕ, zero, suc, ◌+◌, ◌<◌, ◌≤◌, Bool, true, false, ◌⊎◌, inl, inr, ⊎_elim, List, [], ◌∷◌, ◌++◌, length, refl}
use Rattle.std.proofs.Common.{sym, ap, ◌∙◌, subst, arith, length-append}
use Rattle.std.specs.Prelude.{slice_index_or, slice_set}
use Rattle.std.proofs.lemmas.Bool.{cases_eq, false≢true}
use Rattle.std.proofs.lemmas.List.{get_or-set_same, get_or-set_other, length-set}
use Rattle.std.proofs.lemmas.Option.{same_Some, none-some, slice_get_within, get_or_from_slice_get}
use Rattle.sot_lists.specs.Places.{At, Has}
use Rattle.sot_lists.proofs.Places.{at_below}
use Rattle.sot_recover.specs.Sets.{IsSet, with_places, IsMonotone, IsHanging}
use Rattle.sot_recover.specs.Thinned.{count, IsThinned}

pub set_below : (xs : List Bool) (i : ℕ) → IsSet xs i → i < length xs
set_below [] i e = absurd (false≢true e)
set_below (x ∷ xs) zero e = omega arith
set_below (x ∷ xs) (suc i) e = (let h = set_below xs i e in omega (arith, h))

pub set_none : (xs : List Bool) (i : ℕ) → slice_index_or (slice_set xs i false) i false ≡ false
set_none [] zero = refl
set_none [] (suc i) = refl
set_none (x ∷ xs) zero = refl
set_none (x ∷ xs) (suc i) = set_none xs i

pub taken : (xs : List Bool) (i k : ℕ) → IsSet (slice_set xs i false) k → IsSet xs k
taken xs i k e =
    ⊎_elim (λ (same : k ≡ i). absurd (false≢true (sym (set_none xs i) ∙ subst (λ n. IsSet (slice_set xs i false) n) same e)))
    (λ ne. sym (get_or-set_other xs i k false false ne) ∙ e) (cases_eq k i)

-- what is left is not the place that was taken
pub taken_other : (xs : List Bool) (i k : ℕ) → IsSet (slice_set xs i false) k → k ≡ i → ⊥
taken_other xs i k e same = false≢true (sym (set_none xs i) ∙ subst (λ n. IsSet (slice_set xs i false) n) same e)

pub kept_others : (xs : List Bool) (i k : ℕ) (b : Bool) → (k ≡ i → ⊥) → IsSet xs k → IsSet (slice_set xs i b) k
kept_others xs i k b ne e = get_or-set_other xs i k b false ne ∙ e

pub put_there : (xs : List Bool) (i : ℕ) → i < length xs → IsSet (slice_set xs i true) i
put_there xs i lt = get_or-set_same xs i true false lt

-- a flag more
pub put_more : (xs : List Bool) (i k : ℕ) → IsSet xs k → IsSet (slice_set xs i true) k
put_more [] i k e = absurd (false≢true e)
put_more (x ∷ xs) zero zero e = refl
put_more (x ∷ xs) zero (suc k) e = e
put_more (x ∷ xs) (suc i) zero e = e
put_more (x ∷ xs) (suc i) (suc k) e = put_more xs i k e

pub put_cases : (xs : List Bool) (i k : ℕ) → IsSet (slice_set xs i true) k → IsSet xs k ⊎ (k ≡ i)
put_cases xs i k e = ⊎_elim (λ (same : k ≡ i). inr same) (λ ne. inl (sym (get_or-set_other xs i k true false ne) ∙ e)) (cases_eq k i)

pub flag_cases : (b : Bool) → (b ≡ true) ⊎ (b ≡ false)
flag_cases true = inl refl
flag_cases false = inr refl

-- lists
pub has_first : (xs : List ℕ) (x : ℕ) → Has (x ∷ xs) x
has_first xs x = (0, refl)

pub has_later : (xs : List ℕ) (x y : ℕ) → Has xs x → Has (y ∷ xs) x
has_later xs x y h = (suc h.0, h.1)

pub has_split : (xs : List ℕ) (x y : ℕ) → Has (y ∷ xs) x → (x ≡ y) ⊎ Has xs x
has_split xs x y h = go h.0 h.1
  where
    go : (k : ℕ) → At (y ∷ xs) k x → (x ≡ y) ⊎ Has xs x
    go zero at = inl (sym (same_Some y x at))
    go (suc k) at = inr (k, at)

pub has_left : (xs ys : List ℕ) (x : ℕ) → Has xs x → Has (xs ++ ys) x
has_left [] ys x h = absurd (none-some x h.1)
has_left (z ∷ xs) ys x h =
    ⊎_elim (λ (e : x ≡ z). subst (λ n. Has (z ∷ (xs ++ ys)) n) (sym e) (has_first (xs ++ ys) z)) (λ r. has_later (xs ++ ys) x z (has_left xs ys x r))
    (has_split xs x z h)

pub has_last : (xs : List ℕ) (x : ℕ) → Has (xs ++ x ∷ []) x
has_last [] x = (0, refl)
has_last (z ∷ xs) x = has_later (xs ++ x ∷ []) x z (has_last xs x)

pub has_append : (xs : List ℕ) (x y : ℕ) → Has (xs ++ y ∷ []) x → Has xs x ⊎ (x ≡ y)
has_append [] x y h = ⊎_elim (λ e. inr e) (λ n. absurd (none-some x n.1)) (has_split [] x y h)
has_append (z ∷ xs) x y h = ⊎_elim
    (λ (e : x ≡ z). inl (subst (λ n. Has (z ∷ xs) n) (sym e) (has_first xs z)))
    (λ r. ⊎_elim (λ a. inl (has_later xs x z a)) (λ b. inr b) (has_append xs x y r))
    (has_split (xs ++ y ∷ []) x z h)

-- what is read at a place is in the list, and what is in the list is read at a place
pub read_has : (xs : List ℕ) (q : ℕ) → q < length xs → Has xs (slice_index_or xs q 0)
read_has xs q lt = (let y = at_below xs q lt in subst (Has xs) (sym (get_or_from_slice_get xs q y.0 0 y.1)) (q, y.1))

pub has_read : (xs : List ℕ) (x : ℕ) → Has xs x → (q : ℕ) × (q < length xs) × (slice_index_or xs q 0 ≡ x)
has_read xs x h = (h.0, slice_get_within xs h.0 x h.1, get_or_from_slice_get xs h.0 x 0 h.1)

-- one place more
pub one_more : (q n : ℕ) → q < n + 1 → (q < n) ⊎ (q ≡ n)
one_more q n lt = ⊎_elim (λ e. inr e) (λ (ne : q ≡ n → ⊥). inl (omega (arith, lt, ne))) (cases_eq q n)

-- flags and a list together
pub with_flag : (set : List Bool) (js : List ℕ) (k : ℕ) → IsSet set k → IsSet (with_places set js) k
with_flag set [] k e = e
with_flag set (j ∷ js) k e = put_more (with_places set js) j k (with_flag set js k e)

pub with_length : (set : List Bool) (js : List ℕ) → length (with_places set js) ≡ length set
with_length set [] = refl
with_length set (j ∷ js) = length-set (with_places set js) j true ∙ with_length set js

pub with_place : (set : List Bool) (js : List ℕ) (k : ℕ) → k < length set → Has js k → IsSet (with_places set js) k
with_place set [] k lt h = absurd (none-some k h.1)
with_place set (j ∷ js) k lt h = ⊎_elim
    (λ (e : k ≡ j). let room : j < length (with_places set js) = (let l = with_length set js in omega (arith, l, e, lt)) in
    subst (λ n. IsSet (slice_set (with_places set js) j true) n) (sym e) (put_there (with_places set js) j room))
    (λ r. put_more (with_places set js) j k (with_place set js k lt r))
    (has_split js k j h)

pub with_cases : (set : List Bool) (js : List ℕ) (k : ℕ) → IsSet (with_places set js) k → IsSet set k ⊎ Has js k
with_cases set [] k e = inl e
with_cases set (j ∷ js) k e = ⊎_elim
    (λ x. ⊎_elim (λ s. inl s) (λ h. inr (has_later js k j h)) (with_cases set js k x))
    (λ (same : k ≡ j). inr (subst (λ n. Has (j ∷ js) n) (sym same) (has_first js j)))
    (put_cases (with_places set js) j k e)

pub with_below : (set : List Bool) (js : List ℕ) (k : ℕ) → IsSet (with_places set js) k → k < length set
with_below set js k e = (let a = set_below (with_places set js) k e in let l = with_length set js in omega (arith, a, l))

-- counts
pub count_less : (xs : List Bool) (i : ℕ) → IsSet xs i → suc (count (slice_set xs i false)) ≡ count xs
count_less [] i e = absurd (false≢true e)
count_less (true ∷ xs) zero e = refl
count_less (false ∷ xs) zero e = absurd (false≢true e)
count_less (true ∷ xs) (suc i) e = ap suc (count_less xs i e)
count_less (false ∷ xs) (suc i) e = count_less xs i e

pub count_put : (xs : List Bool) (i : ℕ) → count xs ≤ count (slice_set xs i true)
count_put [] zero = omega arith
count_put [] (suc i) = omega arith
count_put (true ∷ xs) zero = omega arith
count_put (false ∷ xs) zero = omega arith
count_put (true ∷ xs) (suc i) = (let h = count_put xs i in omega (arith, h))
count_put (false ∷ xs) (suc i) = (let h = count_put xs i in omega (arith, h))

pub count_up : (xs : List Bool) (i : ℕ) → i < length xs → (IsSet xs i → ⊥) → count xs < count (slice_set xs i true)
count_up [] i lt e = absurd (omega (arith, lt))
count_up (true ∷ xs) zero lt e = absurd (e refl)
count_up (false ∷ xs) zero lt e = omega arith
count_up (true ∷ xs) (suc i) lt e = (let h = count_up xs i (omega (arith, lt)) e in omega (arith, h))
count_up (false ∷ xs) (suc i) lt e = (let h = count_up xs i (omega (arith, lt)) e in omega (arith, h))

pub count_room : (xs : List Bool) → count xs ≤ length xs
count_room [] = omega arith
count_room (true ∷ xs) = (let h = count_room xs in omega (arith, h))
count_room (false ∷ xs) = (let h = count_room xs in omega (arith, h))

-- a place that does not land in the set leaves it
pub thinned_leave : (lands : List Bool → ℕ → Type 0) (set : List Bool) (leaving : List ℕ) (i : ℕ) → IsMonotone lands → IsSet set i → (lands set i → ⊥)
    → IsThinned lands set leaving (slice_set set i false) (leaving ++ i ∷ [])
thinned_leave lands set leaving i more there out = record {
  fewer = λ k e. taken set i k e;
  either = λ k e.
      let below : k < length (slice_set set i false) = (let a = with_below set leaving k e in let l = length-set set i false in omega (arith, a, l)) in
      ⊎_elim
      (λ (same : k ≡ i). with_place (slice_set set i false) (leaving ++ i ∷ []) k below
      (subst (λ n. Has (leaving ++ i ∷ []) n) (sym same) (has_last leaving i)))
      (λ ne. ⊎_elim
      (λ s. with_flag (slice_set set i false) (leaving ++ i ∷ []) k (kept_others set i k false ne s))
      (λ h. with_place (slice_set set i false) (leaving ++ i ∷ []) k below (has_left leaving (i ∷ []) k h))
      (with_cases set leaving k e))
      (cases_eq k i);
  kept = λ all h. record {
    inside = λ k e. ⊎_elim
        (λ (same : k ≡ i). absurd (out (more all set i h.inside (h.land i (subst (λ n. IsSet all n) same e)))))
        (λ ne. kept_others set i k false ne (h.inside k e))
        (cases_eq k i);
    land = h.land;
  };
  lighter = (let a = count_less set i there in let l = length-append leaving (i ∷ []) in omega (arith, a, l));
}

pub thinned_same : (lands : List Bool → ℕ → Type 0) (set : List Bool) (leaving : List ℕ) → IsThinned lands set leaving set leaving
thinned_same lands set leaving = record { fewer = λ k e. e; either = λ k e. e; kept = λ all h. h; lighter = omega arith }

pub thinned_on : (lands : List Bool → ℕ → Type 0) (a b c : List Bool) (x y z : List ℕ) → IsThinned lands a x b y → IsThinned lands b y c z
    → IsThinned lands a x c z
thinned_on lands a b c x y z h g = record {
  fewer = λ k e. h.fewer k (g.fewer k e);
  either = λ k e. g.either k (h.either k e);
  kept = λ all t. g.kept all (h.kept all t);
  lighter = (let p = h.lighter in let q = g.lighter in omega (arith, p, q));
}

-- what hangs on none of the places that are taken lands in the others
pub passed : (lands : List Bool → ℕ → Type 0) (hangs : ℕ → ℕ → Type 0) (set : List Bool) (leaving : List ℕ) (k : ℕ) → IsMonotone lands
    → IsHanging lands hangs → ((j : ℕ) → Has leaving j → hangs j k → ⊥) → lands (with_places set leaving) k → lands set k
passed lands hangs set [] k more hanging none l = l
passed lands hangs set (j ∷ js) k more hanging none l =
    passed lands hangs set js k more hanging (λ q h. none q (has_later js q j h))
    (more (slice_set (with_places set (j ∷ js)) j false) (with_places set js) k back (hanging (with_places set (j ∷ js)) j k l (none j (has_first js j))))
  where
    back : (q : ℕ) → IsSet (slice_set (with_places set (j ∷ js)) j false) q → IsSet (with_places set js) q
    back q e = ⊎_elim
        (λ x. x)
        (λ same. absurd (taken_other (with_places set (j ∷ js)) j q e same))
        (put_cases (with_places set js) j q (taken (with_places set (j ∷ js)) j q e))
