-- What is found in a list.
use Rattle.std.proofs.Common.{◌≡◌, ℕ, zero, suc, ◌+◌, ◌<◌, ◌≤◌, Bool, true, false, nat_lt, not, cond, List, [], ◌∷◌, ◌++◌, Some, None, length, inl, inr}
use Rattle.std.proofs.Common.{refl, sym, ap, ◌∙◌, arith}
use Rattle.std.specs.List.{position, position_or_len}
use Rattle.std.proofs.lemmas.Bool.{cases_Bool, cond-true}
use Rattle.std.proofs.lemmas.Bool.Decides.{nat_tests}
use Rattle.std.proofs.lemmas.List.Quantifiers.{position-Some}
use Rattle.std.proofs.lemmas.Option.{none-some, same_Some, slice_get_within, get_or_from_slice_get}
use Rattle.sot_lists.specs.Places.{At}
use Rattle.sot_lists.proofs.Places.{at_below}

module _ {A : Type 0} (test : A → Bool) where
  first_place : (xs : List A) (k : ℕ) (x : A) → At xs k x → test x ≡ true → ((j : ℕ) (y : A) → At xs j y → test y ≡ true → k ≤ j) → position_or_len test xs ≡ k
  first_place [] k x at is once = absurd (none-some x at)
  first_place (y ∷ ys) zero x at is once =
      ap (λ b. cond (not b) (1 + position_or_len test ys) 0) (ap test (same_Some y x at) ∙ is)
  first_place (y ∷ ys) (suc k) x at is once =
      elim (cases_Bool (test y)) [
        | inl yes' ↦ (let never : suc k ≤ 0 = once 0 y refl yes' in absurd (omega (arith, never)))
        | inr no' ↦ ap (λ b. cond (not b) (1 + position_or_len test ys) 0) no'
            ∙ ap (λ n. 1 + n) (first_place ys k x at is (λ j z at_z named. (let more : suc k ≤ suc j = once (suc j) z at_z named in omega (arith, more))))
            ∙ omega arith
      ]

  below_yes : (k n : ℕ) → k < n → nat_lt k n ≡ true
  below_yes k n lt = grind (arith, nat_tests)

  -- the first thing that passes is found
  pub found : (xs : List A) (k : ℕ) (x : A) → At xs k x → test x ≡ true → ((j : ℕ) (y : A) → At xs j y → test y ≡ true → k ≤ j) → position test xs ≡ Some k
  found xs k x at is once =
      ap (λ n. cond (nat_lt n (length xs)) (Some n) None) (first_place xs k x at is once)
      ∙ cond-true (nat_lt k (length xs)) _ _ (below_yes k (length xs) (slice_get_within xs k x at))

  -- what is found passes
  pub found_at : (xs : List A) (k : ℕ) → position test xs ≡ Some k → (x : A) × At xs k x × (test x ≡ true)
  found_at [] k e = absurd cc
  found_at (y ∷ ys) k e =
      let is = position-Some test (y ∷ ys) k y e in
      let at = at_below (y ∷ ys) k is.0 in
      (at.0, at.1, sym (ap test (get_or_from_slice_get (y ∷ ys) k at.0 y at.1)) ∙ is.1)

  cond_some : (b : Bool) (n k : ℕ) → cond b (Some n) None ≡ Some k → n ≡ k
  cond_some true n k e = same_Some n k e
  cond_some false n k e = absurd (none-some k e)

  earlier : (xs : List A) (j : ℕ) (y : A) → At xs j y → test y ≡ true → position_or_len test xs ≤ j
  earlier [] j y at ok = absurd (none-some y at)
  earlier (x ∷ xs) zero y at ok =
      let e : position_or_len test (x ∷ xs) ≡ 0 = ap (λ b. cond (not b) (1 + position_or_len test xs) 0) (ap test (same_Some x y at) ∙ ok) in
      omega (arith, e)
  earlier (x ∷ xs) (suc j) y at ok =
      elim (cases_Bool (test x)) [
        | inl yes' ↦ (let e : position_or_len test (x ∷ xs) ≡ 0 = ap (λ b. cond (not b) (1 + position_or_len test xs) 0) yes' in omega (arith, e))
        | inr no' ↦ (let e : position_or_len test (x ∷ xs) ≡ 1 + position_or_len test xs = ap (λ b. cond (not b) (1 + position_or_len test xs) 0) no' in
            let rest = earlier xs j y at ok in omega (arith, e, rest))
      ]

  -- nothing before it does
  pub found_first : (xs : List A) (k : ℕ) → position test xs ≡ Some k → (j : ℕ) (y : A) → At xs j y → test y ≡ true → k ≤ j
  found_first xs k e j y at ok =
      let is = cond_some (nat_lt (position_or_len test xs) (length xs)) (position_or_len test xs) k e in
      let low = earlier xs j y at ok in
      omega (arith, is, low)
