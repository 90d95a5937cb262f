-- Two lists, place by place, while the first is worked off.
use Rattle.std.proofs.Common.{◌≡◌, ℕ, suc, List, [], ◌∷◌, ◌++◌, length, refl, sym, ap, ◌∙◌, subst, append_assoc, append-nil, length-append, arith}
use Rattle.sot_workers.specs.Pairs.{EachFrom}
use Rattle.sot_workers.proofs.PairFacts.{each_more, each_length}

-- the same stands in both
abbrev pub Same : {A : Type 0} → ℕ → A → A → Type 0
Same n x y = x ≡ y

-- a list beside itself
pub each_same : {A : Type 0} (k : ℕ) (xs : List A) → EachFrom Same k xs xs
each_same k [] = tt
each_same k (x ∷ xs) = (refl, each_same (suc k) xs)

-- another relation that follows at each place
pub each_map : {A B : Type 0} (R S : ℕ → A → B → Type 0) (k : ℕ) (xs : List A) (ys : List B) → ((n : ℕ) (x : A) (y : B) → R n x y → S n x y)
    → EachFrom R k xs ys → EachFrom S k xs ys
each_map R S k [] [] go e = tt
each_map R S k [] (y ∷ ys) go e = absurd e
each_map R S k (x ∷ xs) [] go e = absurd e
each_map R S k (x ∷ xs) (y ∷ ys) go e = (go k x y e.0, each_map R S (suc k) xs ys go e.1)

-- the first so many are done, and the others are still to come
pub record AreComing {A B D : Type 0} (P : ℕ → A → B → Type 0) (Q : ℕ → A → D → Type 0) (xs : List A) (done : List D) (rest : List B) : Type 0 where
  pub first : List A
  pub more : List A
  pub all : xs ≡ first ++ more
  pub done_each : EachFrom Q 0 first done
  pub rest_each : EachFrom P (length first) more rest

module _ {A B D : Type 0} (P : ℕ → A → B → Type 0) (Q : ℕ → A → D → Type 0) where
  -- none is done yet
  pub coming_begins : (xs : List A) (ys : List B) → EachFrom P 0 xs ys → AreComing P Q xs [] ys
  coming_begins xs ys e = record { first = []; more = xs; all = refl; done_each = tt; rest_each = e }

  -- the next one
  next_of : (k : ℕ) (more : List A) (y : B) (ys : List B) → EachFrom P k more (y ∷ ys)
      → (x : A) × (rest : List A) × (more ≡ x ∷ rest) × P k x y × EachFrom P (suc k) rest ys
  next_of k [] y ys e = absurd e
  next_of k (x ∷ rest) y ys e = (x, rest, refl, e.0, e.1)

  -- what is known of the one to come next
  pub coming_next : (xs : List A) (done : List D) (y : B) (ys : List B) → AreComing P Q xs done (y ∷ ys) → (x : A) × P (length done) x y
  coming_next xs done y ys c =
      let n = next_of (length c.first) c.more y ys c.rest_each in
      (n.0, subst (λ k. P k n.0 y) (sym (each_length Q 0 c.first done c.done_each)) n.3)

  -- one more is done
  pub coming_more : (xs : List A) (done : List D) (y : B) (ys : List B) (d : D) → ((x : A) → P (length done) x y → Q (length done) x d)
      → AreComing P Q xs done (y ∷ ys) → AreComing P Q xs (done ++ d ∷ []) ys
  coming_more xs done y ys d go c =
      let n = next_of (length c.first) c.more y ys c.rest_each in
      let same : length done ≡ length c.first = each_length Q 0 c.first done c.done_each in
      let here : Q (length c.first) n.0 d = subst (λ k. Q k n.0 d) same (go n.0 (subst (λ k. P k n.0 y) (sym same) n.3)) in
      record {
        first = c.first ++ n.0 ∷ [];
        more = n.1;
        all = c.all ∙ (ap (λ l. c.first ++ l) n.2 ∙ sym (append_assoc c.first (n.0 ∷ []) n.1));
        done_each = each_more Q 0 c.first done n.0 d c.done_each (subst (λ k. Q k n.0 d) (omega arith) here);
        rest_each = subst (λ k. EachFrom P k n.1 ys) (let e = length-append c.first (n.0 ∷ []) in omega (arith, e)) n.4;
      }

  -- where none of the second list is to come, none of the first is
  none_to_come : (k : ℕ) (more : List A) → EachFrom P k more [] → more ≡ []
  none_to_come k [] e = refl
  none_to_come k (x ∷ more) e = absurd e

  -- all are done
  pub coming_ends : (xs : List A) (done : List D) → AreComing P Q xs done [] → EachFrom Q 0 xs done
  coming_ends xs done c =
      let all = c.all ∙ (ap (λ l. c.first ++ l) (none_to_come (length c.first) c.more c.rest_each) ∙ append-nil c.first) in
      subst (λ l. EachFrom Q 0 l done) (sym all) c.done_each
