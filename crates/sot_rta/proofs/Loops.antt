-- Checks of a list, entry by entry.
use Rattle.std.proofs.Common.{ℕ, ◌+◌, ◌≤◌, List, length, sym, ◌∙◌, subst, arith}
use Rattle.std.proofs.lemmas.Option.{slice_get_within, same_Some}
use Rattle.sot_lists.specs.Places.{At}
use Rattle.sot_tube.specs.Refusals.{Refusal}
use Rattle.sot_tube.specs.Checks.{Check, for_each}
use Rattle.sot_rta.specs.Refused.{PassBefore}
use Rattle.sot_rta.proofs.Steps.{one_more}

module _ {A : Type 0} (xs : List A) (check : ℕ → A → Check) where
  pub next_passes : (n : ℕ) (x : A) → At xs n x → (check n x).Passes → PassBefore xs check n → PassBefore xs check (n + 1)
  next_passes n x at passes before i y lt =
      one_more (λ i. (y : A) → At xs i y → (check i y).Passes) n (λ i lt y. before i y lt)
      (λ y at_y. subst (λ z. (check n z).Passes) (same_Some x y (sym at ∙ at_y)) passes) i lt y

  pub all_pass : (n : ℕ) → length xs ≤ n → PassBefore xs check n → (for_each xs check).Passes
  all_pass n le before i x at = before i x (omega (arith, le, slice_get_within xs i x at)) at

  pub refuses_at : (n : ℕ) (x : A) (r : Refusal) → At xs n x → (check n x).Refuses r → PassBefore xs check n → (for_each xs check).Refuses r
  refuses_at n x r at refuses before = (n, x, at, refuses, before)
