-- Facts on two lists, place by place.
use Rattle.std.proofs.Common.{◌≡◌, ℕ, zero, suc, ◌+◌, ◌⊎◌, inl, inr, ⊎_elim, List, [], ◌∷◌, ◌++◌, length, refl, sym, ap, ◌∙◌, subst, arith}
use Rattle.std.specs.Prelude.{slice_set}
use Rattle.std.proofs.lemmas.Option.{same_Some, none-some}
use Rattle.sot_lists.specs.Places.{At}
use Rattle.sot_turn.specs.Prefixes.{IsPrefix}
use Rattle.sot_workers.specs.Pairs.{EachFrom}

module _ {A B : Type 0} (R : ℕ → A → B → Type 0) where
  -- one more at the end of both
  pub each_more : (k : ℕ) (xs : List A) (ys : List B) (x : A) (y : B) → EachFrom R k xs ys → R (k + length xs) x y → EachFrom R k (xs ++ x ∷ []) (ys ++ y ∷ [])
  each_more k [] [] x y e r = (subst (λ n. R n x y) (omega arith) r, tt)
  each_more k [] (z ∷ ys) x y e r = absurd e
  each_more k (w ∷ xs) [] x y e r = absurd e
  each_more k (w ∷ xs) (z ∷ ys) x y e r = (e.0, each_more (suc k) xs ys x y e.1 (subst (λ n. R n x y) (omega arith) r))

  pub each_length : (k : ℕ) (xs : List A) (ys : List B) → EachFrom R k xs ys → length ys ≡ length xs
  each_length k [] [] e = refl
  each_length k [] (y ∷ ys) e = absurd e
  each_length k (x ∷ xs) [] e = absurd e
  each_length k (x ∷ xs) (y ∷ ys) e = ap suc (each_length (suc k) xs ys e.1)

  -- what stands at a place of the first list
  pub each_at : (k : ℕ) (xs : List A) (ys : List B) (i : ℕ) (x : A) (y : B) → EachFrom R k xs ys → At xs i x → At ys i y → R (k + i) x y
  each_at k [] ys i x y e a b = absurd (none-some x a)
  each_at k (w ∷ xs) [] i x y e a b = absurd e
  each_at k (w ∷ xs) (z ∷ ys) zero x y e a b =
      (let v : w ≡ x = same_Some w x a in let u : z ≡ y = same_Some z y b in
      subst (λ n. R n x y) (omega arith) (subst (λ t. R k x t) u (subst (λ t. R k t z) v e.0)))
  each_at k (w ∷ xs) (z ∷ ys) (suc i) x y e a b = subst (λ n. R n x y) (omega arith) (each_at (suc k) xs ys i x y e.1 a b)

  -- and at a place of the second
  pub each_there : (k : ℕ) (xs : List A) (ys : List B) (i : ℕ) (y : B) → EachFrom R k xs ys → At ys i y → (x : A) × R (k + i) x y
  each_there k [] [] i y e b = absurd (none-some y b)
  each_there k [] (z ∷ ys) i y e b = absurd e
  each_there k (w ∷ xs) [] i y e b = absurd (none-some y b)
  each_there k (w ∷ xs) (z ∷ ys) zero y e b = (w, subst (λ n. R n w y) (omega arith) (subst (λ t. R k w t) (same_Some z y b) e.0))
  each_there k (w ∷ xs) (z ∷ ys) (suc i) y e b = (let r = each_there (suc k) xs ys i y e.1 b in (r.0, subst (λ n. R n r.0 y) (omega arith) r.1))

  -- another at a place of the second list
  pub each_set : (k : ℕ) (xs : List A) (ys : List B) (i : ℕ) (old new : B) → EachFrom R k xs ys → At ys i old → ((n : ℕ) (x : A) → R n x old → R n x new)
      → EachFrom R k xs (slice_set ys i new)
  each_set k [] [] i old new e b go = tt
  each_set k [] (z ∷ ys) i old new e b go = absurd e
  each_set k (w ∷ xs) [] i old new e b go = absurd e
  each_set k (w ∷ xs) (z ∷ ys) zero old new e b go = (go k w (subst (λ t. R k w t) (same_Some z old b) e.0), e.1)
  each_set k (w ∷ xs) (z ∷ ys) (suc i) old new e b go = (e.0, each_set (suc k) xs ys i old new e.1 b go)

  -- where nothing of the second list is left, nothing of the first is
  pub each_none : (k : ℕ) (xs : List A) → EachFrom R k xs [] → xs ≡ []
  each_none k [] e = refl
  each_none k (x ∷ xs) e = absurd e

-- of two lists that the same list begins with, one begins with the other
pub either_begins : {A : Type 0} (xs ys zs : List A) → IsPrefix xs zs → IsPrefix ys zs → IsPrefix xs ys ⊎ IsPrefix ys xs
either_begins [] ys zs p q = inl (ys, refl)
either_begins (x ∷ xs) [] zs p q = inr (x ∷ xs, refl)
either_begins (x ∷ xs) (y ∷ ys) [] p q = absurd cc
either_begins (x ∷ xs) (y ∷ ys) (z ∷ zs) p q =
    let first : z ≡ x = cc in
    let second : z ≡ y = cc in
    let p' : zs ≡ xs ++ p.0 = cc in
    let q' : zs ≡ ys ++ q.0 = cc in
    let same : x ≡ y = sym first ∙ second in
    ⊎_elim
    (λ r. inl (r.0, ap (λ h. h ∷ ys) (sym same) ∙ ap (λ t. x ∷ t) r.1))
    (λ r. inr (r.0, ap (λ h. h ∷ xs) same ∙ ap (λ t. y ∷ t) r.1))
    (either_begins xs ys zs (p.0, p') (q.0, q'))
