-- Checks that stop at the first failure, which they tell.
use Rattle.std.specs.Prelude.{ℕ, List, ◌≡◌, ◌⊎◌, ◌<◌}
use Rattle.sot_lists.specs.Places.{At}
use Rattle.sot_tube.specs.Refusals.{Refusal}

-- a check: what passes it, and the refusals that it gives
pub record Check : Type 1 where
  pub Passes : Type 0
  pub Refuses : Refusal → Type 0

-- two checks in order: the second one counts where the first one passes
abbrev pub and_then : Check → Check → Check
and_then first second = record {
  Passes = first.Passes × second.Passes;
  Refuses = λ r. first.Refuses r ⊎ (first.Passes × second.Refuses r);
}

-- a check of each entry of a list, in order: the refusal is that of the first entry that does not
-- pass
abbrev pub for_each : {A : Type 0} → List A → (ℕ → A → Check) → Check
for_each {A} xs check = record {
  Passes = (i : ℕ) (x : A) → At xs i x → (check i x).Passes;
  Refuses =
      λ r. (i : ℕ) × (x : A) × At xs i x × (check i x).Refuses r
      × ((j : ℕ) (y : A) → j < i → At xs j y → (check j y).Passes);
}

-- a check of the thing that is named so
abbrev pub of_the : {A : Type 0} → (A → Type 0) → (A → Check) → Check
of_the {A} Is check = record {
  Passes = (x : A) → Is x → (check x).Passes;
  Refuses = λ r. (x : A) × Is x × (check x).Refuses r;
}

-- t is the least number with a property
pub record IsLeastNumber (Property : ℕ → Type 0) (t : ℕ) : Type 0 where
  pub has : Property t
  pub least : (u : ℕ) → u < t → Property u → ⊥

-- a and b, a before b, clash over x; it is the least x of which this can be said, then the least a,
-- then the least b
pub record IsLeastClash (Clash : ℕ → ℕ → ℕ → Type 0) (x a b : ℕ) : Type 0 where
  pub before : a < b
  pub clash : Clash x a b
  pub least_x : (y i k : ℕ) → y < x → i < k → Clash y i k → ⊥
  pub least_a : (i k : ℕ) → i < a → i < k → Clash x i k → ⊥
  pub least_b : (k : ℕ) → k < b → a < k → Clash x a k → ⊥

-- a check that passes gives no refusal, and it gives one refusal at most
pub record IsExact (check : Check) : Type 0 where
  pub exclusive : (r : Refusal) → check.Refuses r → check.Passes → ⊥
  pub unique : (r r' : Refusal) → check.Refuses r → check.Refuses r' → r ≡ r'
