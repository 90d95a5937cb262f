-- What steps do to the numbers at the places and to the draft.
use Rattle.std.specs.Prelude.{◌≡◌, ℕ, zero, suc, ℤ, true, false, List, [], ◌∷◌}
use Rattle.std.specs.Prelude.{Option, Some, slice_set}
use Rattle.sot_lang.specs.Values.{is_true}
use Rattle.sot_eval_flat.specs.Instructions.{Runs, number_at}
use Rattle.sot_eval_flat.specs.declared.step.Step.{Step, Row_of-Step, end_of-Step, more_of-Step}
use Rattle.sot_eval_flat.specs.declared.step.Step.TheVariants.{Line, Publish, Choice', Turns'}

-- the numbers at the places, and what is drafted
pub record State : Type 0 where
  pub room : List ℤ
  pub draft : List (Option ℤ)

abbrev pub state : List ℤ → List (Option ℤ) → State
state room draft = record { room = room; draft = draft }

-- so many times
abbrev pub Rounds : ℕ → (State → State → Type 0) → State → State → Type 0
Rounds zero Round s t = t ≡ s
Rounds (suc n) Round s t = (m : State) × Rounds n Round s m × Round m t

-- a step leads from one state to another
abbrev mutual
  pub Flows : Step → State → State → Type 0
  Flows (Line code) s t = Runs code.items s.room t.room × (t.draft ≡ s.draft)
  Flows (Publish slot place) s t =
      (t.room ≡ s.room) × (t.draft ≡ slice_set s.draft slot (Some (number_at s.room place)))
  Flows (Choice' place s1 us s2 vs) s t =
      (is_true (number_at s.room place) ≡ true → FlowRow us s t)
      × (is_true (number_at s.room place) ≡ false → FlowRow vs s t)
  Flows (Turns' n s1 us) s t = Rounds n (FlowRow us) s t

  -- the steps of a block lead from one state to another, one after another
  pub FlowRow : {m : _} → Row_of-Step m → State → State → Type 0
  FlowRow end_of-Step s t = t ≡ s
  FlowRow (more_of-Step a rest) s t = (m : State) × Flows a s m × FlowRow rest m t

-- the steps of a list lead from one state to another, one after another
abbrev pub FlowAll : List Step → State → State → Type 0
FlowAll [] s t = t ≡ s
FlowAll (a ∷ rest) s t = (m : State) × Flows a s m × FlowAll rest m t
