-- Which nodes are enabled.
use Rattle.std.proofs.Common.{◌≡◌, ℕ, zero, suc, true, false, ◌⊎◌, inl, inr, ⊎_elim, List, [], ◌∷◌, refl, subst, eqb}
use Rattle.std.specs.Prelude.{slice_index_or}
use Rattle.std.proofs.lemmas.Bool.{and_parts, and_cases, not-true, not-false, eqb-true, eqb-false}
use Rattle.sot_lang.specs.declared.tables.ModuleInfo.{ModuleInfo}
use Rattle.sot_lists.specs.Places.{At}
use Rattle.sot_world.specs.Configurations.{Mode, Ac, Sc}
use Rattle.sot_world.specs.Steps.{allows, allowed_by}

pub allowed_true : (ms : List ModuleInfo) (modes : List Mode) (n m : ℕ) (a : ModuleInfo) → allowed_by ms modes n ≡ true → At ms m a
    → allows a (slice_index_or modes m Sc) n ≡ true
allowed_true [] modes n m a e at = cc
allowed_true (b ∷ ms) [] n zero a e at = (let s : b ≡ a = cc in subst (λ x. allows x Sc n ≡ true) s (and_parts _ _ e).0)
allowed_true (b ∷ ms) [] n (suc m) a e at = allowed_true ms [] n m a (and_parts _ _ e).1 at
allowed_true (b ∷ ms) (mode ∷ modes) n zero a e at = (let s : b ≡ a = cc in subst (λ x. allows x mode n ≡ true) s (and_parts _ _ e).0)
allowed_true (b ∷ ms) (mode ∷ modes) n (suc m) a e at = allowed_true ms modes n m a (and_parts _ _ e).1 at

pub allowed_false : (ms : List ModuleInfo) (modes : List Mode) (n : ℕ) → allowed_by ms modes n ≡ false
    → (m : ℕ) × (a : ModuleInfo) × At ms m a × (allows a (slice_index_or modes m Sc) n ≡ false)
allowed_false [] modes n e = cc
allowed_false (b ∷ ms) [] n e =
    ⊎_elim
    (λ f. (0, b, refl, f))
    (λ f. let r = allowed_false ms [] n f in (suc r.0, r.1, r.2, r.3))
    (and_cases (allows b Sc n) (allowed_by ms [] n) e)
allowed_false (b ∷ ms) (mode ∷ modes) n e =
    ⊎_elim
    (λ f. (0, b, refl, f))
    (λ f. let r = allowed_false ms modes n f in (suc r.0, r.1, r.2, r.3))
    (and_cases (allows b mode n) (allowed_by ms modes n) e)

-- an enabled advanced node's module is in mode Ac, and an enabled safe node's in mode Sc
pub allows_ac : (a : ModuleInfo) (mode : Mode) (n : ℕ) → allows a mode n ≡ true → a.ac ≡ n → mode ≡ Ac
allows_ac a Ac n e is = refl
allows_ac a Sc n e is = absurd (eqb-false a.ac n (not-true (eqb a.ac n) e) is)

pub allows_sc : (a : ModuleInfo) (mode : Mode) (n : ℕ) → allows a mode n ≡ true → a.sc ≡ n → mode ≡ Sc
allows_sc a Sc n e is = refl
allows_sc a Ac n e is = absurd (eqb-false a.sc n (not-true (eqb a.sc n) e) is)

-- a disabled node is one of a module in the other mode
pub allows_not : (a : ModuleInfo) (mode : Mode) (n : ℕ) → allows a mode n ≡ false → ((a.ac ≡ n) × (mode ≡ Sc)) ⊎ ((a.sc ≡ n) × (mode ≡ Ac))
allows_not a Ac n e = inr (eqb-true a.sc n (not-false (eqb a.sc n) e), refl)
allows_not a Sc n e = inl (eqb-true a.ac n (not-false (eqb a.ac n) e), refl)
