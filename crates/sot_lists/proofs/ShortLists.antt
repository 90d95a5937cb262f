-- What holds of each element of a short list.
use Rattle.std.proofs.Common.{ℕ, zero, suc, List, [], ◌∷◌, sym}
use Rattle.std.proofs.lemmas.Option.{same_Some, none-some}
use Rattle.sot_lists.specs.Places.{At}

module _ {A : Type 0} where
  pub at_none : (P : ℕ → A → Type 0) (n : ℕ) (x : A) → At [] n x → P n x
  at_none P n x at = absurd (none-some x at)

  pub at_more : (P : ℕ → A → Type 0) (a : A) (xs : List A) → P 0 a → ((n : ℕ) (x : A) → At xs n x → P (suc n) x) → (n : ℕ) (x : A) → At (a ∷ xs) n x → P n x
  at_more P a xs h hs zero x at = rw (sym (same_Some a x at)) h
  at_more P a xs h hs (suc n) x at = hs n x at

  pub at_one : (P : ℕ → A → Type 0) (a : A) → P 0 a → (n : ℕ) (x : A) → At (a ∷ []) n x → P n x
  at_one P a h = at_more P a [] h (at_none (λ n x. P (suc n) x))

  pub at_two : (P : ℕ → A → Type 0) (a b : A) → P 0 a → P 1 b → (n : ℕ) (x : A) → At (a ∷ b ∷ []) n x → P n x
  at_two P a b h k = at_more P a (b ∷ []) h (at_one (λ n x. P (suc n) x) b k)
