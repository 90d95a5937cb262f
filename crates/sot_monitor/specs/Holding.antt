-- When a formula holds.
use Rattle.std.specs.Prelude.{ℕ, ℤ, true, List, ◌≡◌, ◌≢◌, ◌⊎◌, ◌<◌, ◌≤◌, ◌+◌, ◌<ℤ◌, ◌≤ℤ◌, length}
use Rattle.std.specs.Prelude.{◌+ℤ◌, ◌-ℤ◌}
use Rattle.sot_lists.specs.Places.{At}
use Rattle.sot_formula.specs.declared.quantity.Quantity.{Quantity}
use Rattle.sot_formula.specs.declared.quantity.Comparison.{Comparison}
use Rattle.sot_formula.specs.declared.quantity.Comparison.TheVariants as comparisons
use Rattle.sot_formula.specs.declared.quantity.Pairing.{Pairing}
use Rattle.sot_formula.specs.declared.quantity.Pairing.TheVariants as pairings
use Rattle.sot_formula.specs.Formulas.{Formula, Truth, Compared, Against, Paired, Not, And, Or}
use Rattle.sot_formula.specs.Formulas.{Implies, Once, Always, Since, Within}

-- a moment is the number of each quantity
abbrev pub Moment : Type 0
Moment = Quantity → ℤ

abbrev pub Compares : Comparison → ℤ → ℤ → Type 0
Compares comparisons.Less x z = x <ℤ z
Compares comparisons.LessEqual x z = x ≤ℤ z
Compares comparisons.Greater x z = z <ℤ x
Compares comparisons.GreaterEqual x z = z ≤ℤ x
Compares comparisons.Equal x z = x ≡ z
Compares comparisons.NotEqual x z = x ≢ z

-- two numbers together
abbrev pub together : Pairing → ℤ → ℤ → ℤ
together pairings.Sum x y = x +ℤ y
together pairings.Difference x y = x -ℤ y

-- a formula holds at moment i of these
abbrev pub Holds : List Moment → Formula → ℕ → Type 0
Holds Ms (Truth value) i = value ≡ true
Holds Ms (Compared of by number) i = (s : Moment) × At Ms i s × Compares by (s of) number
Holds Ms (Against of by other) i = (s : Moment) × At Ms i s × Compares by (s of) (s other)
Holds Ms (Paired first pairing second by number) i =
    (s : Moment) × At Ms i s × Compares by (together pairing (s first) (s second)) number
Holds Ms (Not f) i = Holds Ms f i → ⊥
Holds Ms (And f g) i = Holds Ms f i × Holds Ms g i
Holds Ms (Or f g) i = Holds Ms f i ⊎ Holds Ms g i
Holds Ms (Implies f g) i = Holds Ms f i → Holds Ms g i
Holds Ms (Once f) i = (j : ℕ) × (j ≤ i) × Holds Ms f j
Holds Ms (Always f) i = (j : ℕ) → j ≤ i → Holds Ms f j
Holds Ms (Since f g) i =
    (j : ℕ) × (j ≤ i) × Holds Ms g j × ((k : ℕ) → j < k → k ≤ i → Holds Ms f k)
Holds Ms (Within ticks f) i = (j : ℕ) × (j ≤ i) × (i ≤ j + ticks) × Holds Ms f j

-- a formula holds at each of these moments
abbrev pub AlwaysHolds : List Moment → Formula → Type 0
AlwaysHolds Ms f = (i : ℕ) → i < length Ms → Holds Ms f i

-- t is the first of these moments at which it does not
pub record FirstFails (Ms : List Moment) (f : Formula) (t : ℕ) : Type 0 where
  pub there : t < length Ms
  pub fails : Holds Ms f t → ⊥
  pub before : (i : ℕ) → i < t → Holds Ms f i
