-- Lists whose elements lost something that what is asked of them does not see.
use Rattle.std.proofs.Common.{◌≡◌, ℕ, zero, suc, ◌+◌, Bool, true, false, cond, not, ◌||◌, List, [], ◌∷◌, ◌++◌, map, length, take, Option, Some, None}
use Rattle.std.proofs.Common.{option_map, find, filter_map, flat_map, fold, sum_by, zip, refl, ap, ap₂, ◌∙◌}
use Rattle.std.specs.List.{cons_option, list_any, prefix_len, position_or_len}

module _ {A B : Type 0} (bare : A → B) where
  pub length_same : (xs : List A) → length (map bare xs) ≡ length xs
  length_same [] = refl
  length_same (x ∷ xs) = ap suc (length_same xs)

  pub map_same : {C : Type 0} (f : B → C) (g : A → C) → ((x : A) → f (bare x) ≡ g x) → (xs : List A) → map f (map bare xs) ≡ map g xs
  map_same f g same [] = refl
  map_same f g same (x ∷ xs) = ap₂ (λ a b. a ∷ b) (same x) (map_same f g same xs)

  pub map_swap : {C D : Type 0} (f : B → D) (other : C → D) (g : A → C) → ((x : A) → f (bare x) ≡ other (g x)) → (xs : List A)
      → map f (map bare xs) ≡ map other (map g xs)
  map_swap f other g same [] = refl
  map_swap f other g same (x ∷ xs) = ap₂ (λ a b. a ∷ b) (same x) (map_swap f other g same xs)

  pub filter_same : {C : Type 0} (f : B → Option C) (g : A → Option C) → ((x : A) → f (bare x) ≡ g x) → (xs : List A)
      → filter_map f (map bare xs) ≡ filter_map g xs
  filter_same f g same [] = refl
  filter_same f g same (x ∷ xs) = ap₂ (λ a b. cons_option a b) (same x) (filter_same f g same xs)

  cons_swap : {C D : Type 0} (other : C → D) (o : Option C) (xs : List C) → cons_option (option_map other o) (map other xs) ≡ map other (cons_option o xs)
  cons_swap other None xs = refl
  cons_swap other (Some x) xs = refl

  pub filter_swap : {C D : Type 0} (f : B → Option D) (other : C → D) (g : A → Option C) → ((x : A) → f (bare x) ≡ option_map other (g x)) → (xs : List A)
      → filter_map f (map bare xs) ≡ map other (filter_map g xs)
  filter_swap f other g same [] = refl
  filter_swap f other g same (x ∷ xs) = ap₂ (λ a b. cons_option a b) (same x) (filter_swap f other g same xs) ∙ cons_swap other (g x) (filter_map g xs)

  pub flat_same : {C : Type 0} (f : B → List C) (g : A → List C) → ((x : A) → f (bare x) ≡ g x) → (xs : List A) → flat_map f (map bare xs) ≡ flat_map g xs
  flat_same f g same [] = refl
  flat_same f g same (x ∷ xs) = ap₂ (λ a b. a ++ b) (same x) (flat_same f g same xs)

  cond_swap : (b : Bool) (o r : Option A) → cond b (option_map bare o) (option_map bare r) ≡ option_map bare (cond b o r)
  cond_swap true o r = refl
  cond_swap false o r = refl

  pub find_same : (f : B → Bool) (g : A → Bool) → ((x : A) → f (bare x) ≡ g x) → (xs : List A) → find f (map bare xs) ≡ option_map bare (find g xs)
  find_same f g same [] = refl
  find_same f g same (x ∷ xs) = ap₂ (λ a b. cond a (Some (bare x)) b) (same x) (find_same f g same xs) ∙ cond_swap (g x) (Some x) (find g xs)

  pub any_same : (f : B → Bool) (g : A → Bool) → ((x : A) → f (bare x) ≡ g x) → (xs : List A) → list_any f (map bare xs) ≡ list_any g xs
  any_same f g same [] = refl
  any_same f g same (x ∷ xs) = ap₂ (λ a b. a || b) (same x) (any_same f g same xs)

  prefix_same : (f : B → Bool) (g : A → Bool) → ((x : A) → f (bare x) ≡ g x) → (xs : List A) → prefix_len f (map bare xs) ≡ prefix_len g xs
  prefix_same f g same [] = refl
  prefix_same f g same (x ∷ xs) = ap₂ (λ a b. cond a (1 + b) 0) (same x) (prefix_same f g same xs)

  pub position_same : (f : B → Bool) (g : A → Bool) → ((x : A) → f (bare x) ≡ g x) → (xs : List A) → position_or_len f (map bare xs) ≡ position_or_len g xs
  position_same f g same xs = prefix_same (λ y. not (f y)) (λ x. not (g x)) (λ x. ap not (same x)) xs

  pub take_swap : (k : ℕ) (xs : List A) → take k (map bare xs) ≡ map bare (take k xs)
  take_swap zero xs = refl
  take_swap (suc k) [] = refl
  take_swap (suc k) (x ∷ xs) = ap (λ ys. bare x ∷ ys) (take_swap k xs)

  pub sum_same : (f : B → ℕ) (g : A → ℕ) → ((x : A) → f (bare x) ≡ g x) → (xs : List A) → sum_by f (map bare xs) ≡ sum_by g xs
  sum_same f g same xs = from 0 xs
    where
      from : (n : ℕ) (xs : List A) → fold (λ a y. a + f y) n (map bare xs) ≡ fold (λ a x. a + g x) n xs
      from n [] = refl
      from n (x ∷ xs) = ap (λ k. fold (λ a y. a + f y) (n + k) (map bare xs)) (same x) ∙ from (n + g x) xs

-- pairs, of which both sides, or the second one, lost something
pub zip_same : {A B C D : Type 0} (f : A → C) (g : B → D) (xs : List A) (ys : List B) → zip (map f xs) (map g ys) ≡ map (λ z. (f z.0, g z.1)) (zip xs ys)
zip_same f g [] ys = refl
zip_same f g (x ∷ xs) [] = refl
zip_same f g (x ∷ xs) (y ∷ ys) = ap (λ zs. (f x, g y) ∷ zs) (zip_same f g xs ys)

pub zip_second : {A B D : Type 0} (g : B → D) (xs : List A) (ys : List B) → zip xs (map g ys) ≡ map (λ z. (z.0, g z.1)) (zip xs ys)
zip_second g [] ys = refl
zip_second g (x ∷ xs) [] = refl
zip_second g (x ∷ xs) (y ∷ ys) = ap (λ zs. (x, g y) ∷ zs) (zip_second g xs ys)
