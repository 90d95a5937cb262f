-- What is found by its name.
use Rattle.std.proofs.Common.{◌≡◌, ℕ, zero, suc, ◌+◌, ◌<◌, true, nat_lt, not, cond, List, [], ◌∷◌, Some, None, length, drop, get_or, inl, inr, refl, sym, ap}
use Rattle.std.proofs.Common.{subst, ◌∙◌, arith}
use Rattle.std.specs.List.{position_or_len}
use Rattle.std.specs.Str.{bytes_eq}
use Rattle.std.proofs.lemmas.Bool.{cases_Bool, cond-true}
use Rattle.std.proofs.lemmas.Bool.Decides.{nat_tests}
use Rattle.std.proofs.lemmas.List.Quantifiers.{position-Some}
use Rattle.std.proofs.lemmas.Option.{none-some, same_Some, slice_get_within, get_or_from_slice_get}
use Rattle.std.proofs.lemmas.Slice.Eq.{bytes_eq-Decides}
use Rattle.sot_lists.specs.Places.{At}
use Rattle.sot_lists.proofs.Places.{at_below}
use Rattle.sot_trace_lines.specs.Readers.{place_of}

-- a place behind the first ones
behind_first : {A : Type 0} (xs : List A) (from k : ℕ) (x : A) → At (drop from xs) k x → At xs (from + k) x
behind_first xs zero k x at = (let same : k ≡ 0 + k = omega arith in subst (λ n. At xs n x) same at)
behind_first [] (suc from) k x at = absurd (none-some x at)
behind_first (y ∷ ys) (suc from) k x at =
    let step : At (y ∷ ys) (suc (from + k)) x = behind_first ys from k x at in
    let same : suc (from + k) ≡ suc from + k = omega arith in
    subst (λ n. At (y ∷ ys) n x) same step

module _ {A : Type 0} (name : A → List ℕ) (word : List ℕ) where
  first_place : (xs : List A) (k : ℕ) (x : A) → At xs k x → name x ≡ word → ((j : ℕ) (y : A) → At xs j y → name y ≡ word → j ≡ k)
      → position_or_len (λ y. bytes_eq (name y) word) xs ≡ k
  first_place [] k x at is once = absurd (none-some x at)
  first_place (y ∷ ys) zero x at is once =
      let named : name y ≡ word = ap name (same_Some y x at) ∙ is in
      ap (λ b. cond (not b) (1 + position_or_len (λ z. bytes_eq (name z) word) ys) 0) ((bytes_eq-Decides (name y) word).1 named)
  first_place (y ∷ ys) (suc k) x at is once =
      elim (cases_Bool (bytes_eq (name y) word)) [
        | inl yes' ↦ (let never : 0 ≡ suc k = once 0 y refl ((bytes_eq-Decides (name y) word).0 yes') in absurd (omega arith))
        | inr no' ↦ ap (λ b. cond (not b) (1 + position_or_len (λ z. bytes_eq (name z) word) ys) 0) no'
            ∙ ap (λ n. 1 + n) (first_place ys k x at is (λ j z at_z named. (let more : suc j ≡ suc k = once (suc j) z at_z named in omega (arith, more))))
            ∙ omega arith
      ]

  below_yes : (k n : ℕ) → k < n → nat_lt k n ≡ true
  below_yes k n lt = grind (arith, nat_tests)

  -- the one thing of that name is found
  pub found : (xs : List A) (k : ℕ) (x : A) → At xs k x → name x ≡ word → ((j : ℕ) (y : A) → At xs j y → name y ≡ word → j ≡ k) → place_of name xs word ≡ Some k
  found xs k x at is once =
      ap (λ n. cond (nat_lt n (length xs)) (Some n) None) (first_place xs k x at is once)
      ∙ cond-true (nat_lt k (length xs)) _ _ (below_yes k (length xs) (slice_get_within xs k x at))

  -- what is found has the name
  pub found_at : (xs : List A) (k : ℕ) → place_of name xs word ≡ Some k → (x : A) × At xs k x × (name x ≡ word)
  found_at [] k e = absurd cc
  found_at (y ∷ ys) k e =
      let is = position-Some (λ z. bytes_eq (name z) word) (y ∷ ys) k y e in
      let at = at_below (y ∷ ys) k is.0 in
      (at.0, at.1, sym (ap name (get_or_from_slice_get (y ∷ ys) k at.0 y at.1)) ∙ (bytes_eq-Decides (name (get_or (y ∷ ys) k y)) word).0 is.1)

  -- what is found in some place or behind it is the one thing of that name
  pub found_from : (xs : List A) (from k : ℕ) → ((i j : ℕ) (x y : A) → At xs i x → At xs j y → name x ≡ name y → i ≡ j)
      → place_of name (drop from xs) word ≡ Some k → place_of name xs word ≡ Some (from + k)
  found_from xs from k once e =
      let is = found_at (drop from xs) k e in
      let at : At xs (from + k) is.0 = behind_first xs from k is.0 is.1 in
      found xs (from + k) is.0 at is.2 (λ j y at_y named. once j (from + k) y is.0 at_y at (named ∙ sym is.2))
