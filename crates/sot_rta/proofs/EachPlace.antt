-- The answers for all places of a list, seen as a check of each entry.
use Rattle.std.proofs.Common.{◌≡◌, ℕ, Ok, Err, List, length, arith}
use Rattle.std.specs.Prelude.{Result}
use Rattle.std.proofs.lemmas.Option.{slice_get_within}
use Rattle.sot_lists.specs.Places.{At}
use Rattle.sot_lists.proofs.Places.{at_below}
use Rattle.sot_tube.specs.Checks.{Check, for_each}
use Rattle.sot_rta.specs.declared.refusal.Refusal.{Refusal}
use Rattle.sot_rta.specs.Refused.{Answers}
use Rattle.sot_rta.specs.Many.{Answering, AnswersAll}

module _ {A : Type 0} (xs : List A) (check : ℕ → A → Check) (Answer : Answering)
    (are : (i : ℕ) (x : A) → At xs i x → (r : Result (Unit {0}) Refusal) → Answer i r → Answers (check i x) r) where
  pub each_answers : (n : ℕ) → n ≡ length xs → (result : Result (Unit {0}) Refusal) → AnswersAll Answer 0 n result → Answers (for_each xs check) result
  each_answers n all (Ok u) h = λ i x at. are i x at (Ok tt) (h i (omega arith) (omega (arith, all, slice_get_within xs i x at)))
  each_answers n all (Err r) h =
      let there = at_below xs h.0 (omega (arith, all, h.2)) in
      (h.0, there.0, there.1, are h.0 there.0 there.1 (Err r) h.3, λ j y lt at. are j y at (Ok tt) (h.4 j (omega arith) lt))
