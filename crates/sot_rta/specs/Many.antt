-- The first refusal among the answers of many calls.
use Rattle.std.specs.Prelude.{ℕ, ◌<◌, ◌≤◌, Result, Ok, Err, MatchResult}
use Rattle.sot_rta.specs.declared.refusal.Refusal.{Refusal}

-- what a call may answer for a number
abbrev pub Answering : Type 1
Answering = ℕ → Result (Unit {0}) Refusal → Type 0

-- each number from `from` up to `to` is answered Ok
abbrev pub AllOk : Answering → ℕ → ℕ → Type 0
AllOk Answer from to = (i : ℕ) → from ≤ i → i < to → Answer i (Ok tt)

-- r is the answer for the first number from `from` up to `to` that is refused
abbrev pub RefusesFirst : Answering → ℕ → ℕ → Refusal → Type 0
RefusesFirst Answer from to r =
    (i : ℕ) × (from ≤ i) × (i < to) × Answer i (Err r) × AllOk Answer from i

-- what the calls for the numbers from `from` up to `to` come to
abbrev pub AnswersAll : Answering → ℕ → ℕ → Result (Unit {0}) Refusal → Type 0
AnswersAll Answer from to result =
    MatchResult result (λ _. AllOk Answer from to) (RefusesFirst Answer from to)
