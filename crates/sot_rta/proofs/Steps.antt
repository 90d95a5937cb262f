-- Searches that go through numbers from 0 on.
use Rattle.std.proofs.Common.{◌≡◌, ℕ, ◌+◌, ◌<◌, ◌≤◌, ◌⊎◌, inl, inr, Bool, true, false, refl, sym, ◌∙◌, subst, arith, IsTrue, ◌↔◌, nat_lt, not, ◌&&◌}
use Rattle.std.specs.Bool.{beq}
use Rattle.std.proofs.lemmas.Bool.{cases_Bool, false≢true}
use Rattle.std.proofs.lemmas.Bool.Decides.{nat_tests}
use Rattle.sot_tube.specs.Checks.{IsLeastNumber}

-- what is below a number, or is it
pub below_next : (t i : ℕ) → t < i + 1 → (t < i) ⊎ (t ≡ i)
below_next t i lt = elim (cases_Bool (nat_lt t i)) [
  | inl yes_ ↦ inl (grind (arith, nat_tests))
  | inr no_ ↦ inr (grind (arith, nat_tests))
]

pub one_more : (P : ℕ → Type 0) (i : ℕ) → ((t : ℕ) → t < i → P t) → P i → (t : ℕ) → t < i + 1 → P t
one_more P i before here t lt = elim (below_next t i lt) [
  | inl less ↦ before t less
  | inr same ↦ subst P (sym same) here
]

pub all_below : (P : ℕ → Type 0) (i n : ℕ) → n ≤ i → ((t : ℕ) → t < i → P t) → (t : ℕ) → t < n → P t
all_below P i n le before t lt = before t (omega (arith, le, lt))

-- what holds below a number and from it on
pub below_or_not : (P : ℕ → Type 0) (i : ℕ) → ((t : ℕ) → t < i → P t) → ((t : ℕ) → i ≤ t → P t) → (t : ℕ) → P t
below_or_not P i less more t = elim (cases_Bool (nat_lt t i)) [
  | inl yes_ ↦ less t (grind (arith, nat_tests))
  | inr no_ ↦ more t (grind (arith, nat_tests))
]

-- a test that answers exactly
pub holds : (b : Bool) (P : Type 0) → (IsTrue b ↔ P) → b ≡ true → P
holds b P iff e = iff.0 (subst IsTrue (sym e) refl)

pub fails : (b : Bool) (P : Type 0) → (IsTrue b ↔ P) → b ≡ false → P → ⊥
fails b P iff e p = false≢true (sym e ∙ iff.1 p)

-- two exact tests, of which one alone passes, or both or none
pub differ : (a b : Bool) (P Q : Type 0) → (IsTrue a ↔ P) → (IsTrue b ↔ Q) → not (beq a b) ≡ true → (P × (Q → ⊥)) ⊎ (Q × (P → ⊥))
differ true true P Q p q e = absurd (false≢true e)
differ true false P Q p q e = inl (p.0 refl, λ x. false≢true (q.1 x))
differ false true P Q p q e = inr (q.0 refl, λ x. false≢true (p.1 x))
differ false false P Q p q e = absurd (false≢true e)

pub agree : (a b : Bool) (P Q : Type 0) → (IsTrue a ↔ P) → (IsTrue b ↔ Q) → not (beq a b) ≡ false → (P → Q) × (Q → P)
agree true true P Q p q e = (λ x. q.0 refl, λ y. p.0 refl)
agree true false P Q p q e = absurd (false≢true (sym e))
agree false true P Q p q e = absurd (false≢true (sym e))
agree false false P Q p q e = (λ x. absurd (false≢true (p.1 x)), λ y. absurd (false≢true (q.1 y)))

-- the first passes and the second does not, or the second passes where the first does
pub missing : (a b : Bool) (P Q : Type 0) → (IsTrue a ↔ P) → (IsTrue b ↔ Q) → (a && not b) ≡ true → P × (Q → ⊥)
missing true true P Q p q e = absurd (false≢true e)
missing true false P Q p q e = (p.0 refl, λ x. false≢true (q.1 x))
missing false b P Q p q e = absurd (false≢true e)

pub over : (a b : Bool) (P Q : Type 0) → (IsTrue a ↔ P) → (IsTrue b ↔ Q) → (a && not b) ≡ false → P → Q
over true true P Q p q e x = q.0 refl
over true false P Q p q e x = absurd (false≢true (sym e))
over false b P Q p q e x = absurd (false≢true (p.1 x))

-- the least number with a property, seen as one with another that says the same
pub least_as : (P Q : ℕ → Type 0) (t : ℕ) → (P t → Q t) → P t → ((u : ℕ) → u < t → Q u → ⊥) → IsLeastNumber Q t
least_as P Q t to p before = record { has = to p; least = before }
