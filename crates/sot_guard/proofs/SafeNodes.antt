-- The safe nodes of the first modules are left to fire.
use Rattle.std.proofs.Common.{◌≡◌, ℕ, zero, suc, ◌+◌, ◌<◌, ◌⊎◌, ◌↔◌, ⊎_elim, inl, inr, Bool, true, false, List, length, slice_index_or, refl, sym, ap, ◌∙◌, subst}
use Rattle.std.proofs.Common.{arith}
use Rattle.std.specs.Prelude.{slice_set, ◌≢◌}
use Rattle.std.proofs.lemmas.List.{get_or-set_same, get_or-set_other}
use Rattle.std.proofs.lemmas.Option.{slice_get_within}
use Rattle.sot_lists.specs.Places.{At}
use Rattle.sot_lists.proofs.Places.{at_same}
use Rattle.sot_lang.specs.declared.tables.ModuleInfo.{ModuleInfo}
use Rattle.sot_guard.specs.Changes.{IsSafeNode}

-- a node is the safe one of a module before this one
abbrev pub IsSafeBefore : List ModuleInfo → ℕ → ℕ → Type 0
IsSafeBefore modules k n = (m : ℕ) × (a : ModuleInfo) × (m < k) × At modules m a × (a.sc ≡ n)

-- left are those that were, and the safe nodes of the modules before this one
abbrev pub AreLeft : List ModuleInfo → ℕ → List Bool → List Bool → Type 0
AreLeft modules k before left =
    (n : ℕ) → (slice_index_or left n false ≡ true) ↔ ((slice_index_or before n false ≡ true) ⊎ IsSafeBefore modules k n)

same_or : (i j : ℕ) → (i ≡ j) ⊎ (i ≢ j)
same_or zero zero = inl refl
same_or zero (suc j) = inr (λ e. omega (arith, e))
same_or (suc i) zero = inr (λ e. omega (arith, e))
same_or (suc i) (suc j) = ⊎_elim (λ e. inl (ap suc e)) (λ other. inr (λ e. other (omega (arith, e)))) (same_or i j)

pub none_left : (modules : List ModuleInfo) (left : List Bool) → AreLeft modules 0 left left
none_left modules left n = (λ is. inl is, λ either. ⊎_elim (λ is. is) (λ safe. absurd (let lt = safe.2 in omega (arith, lt))) either)

module _ (modules : List ModuleInfo) (k : ℕ) (a : ModuleInfo) (before left : List Bool) (at : At modules k a) (inside : a.sc < length left)
    (are : AreLeft modules k before left) where
  more : (n : ℕ) → (slice_index_or before n false ≡ true) ⊎ IsSafeBefore modules k n → (slice_index_or before n false ≡ true) ⊎ IsSafeBefore modules (k + 1) n
  more n (inl is) = inl is
  more n (inr (m, b, lt, there, same)) = inr (m, b, omega (arith, lt), there, same)

  less : (n : ℕ) → a.sc ≢ n → (slice_index_or before n false ≡ true) ⊎ IsSafeBefore modules (k + 1) n
      → (slice_index_or before n false ≡ true) ⊎ IsSafeBefore modules k n
  less n other (inl is) = inl is
  less n other (inr (m, b, lt, there, same)) =
      ⊎_elim
      (λ e. absurd (other (ap (λ (x : ModuleInfo). x.sc) (at_same modules k a b at (subst (λ j. At modules j b) e there)) ∙ same)))
      (λ not_last. inr (m, b, omega (arith, lt, not_last), there, same)) (same_or m k)

  other_left : (n : ℕ) → a.sc ≢ n → slice_index_or (slice_set left a.sc true) n false ≡ slice_index_or left n false
  other_left n other = get_or-set_other left a.sc n true false (λ e. other (sym e))

  pub one_more : AreLeft modules (k + 1) before (slice_set left a.sc true)
  one_more n =
      ⊎_elim
      (λ e. (
        (λ is. inr (k, a, omega arith, at, e)),
        (λ either. subst (λ j. slice_index_or (slice_set left a.sc true) j false ≡ true) e (get_or-set_same left a.sc true false inside)),
      ))
      (λ other. (
        (λ is. more n ((are n).0 (sym (other_left n other) ∙ is))),
        (λ either. other_left n other ∙ (are n).1 (less n other either)),
      ))
      (same_or a.sc n)

pub all_left : (modules : List ModuleInfo) (before left : List Bool) → AreLeft modules (length modules) before left
    → (n : ℕ) → (slice_index_or left n false ≡ true) ↔ ((slice_index_or before n false ≡ true) ⊎ IsSafeNode modules n)
all_left modules before left are n = (
  (λ is. ⊎_elim (λ old. inl old) (λ safe. inr (safe.0, safe.1, safe.3, safe.4)) ((are n).0 is)),
  (λ either. (are n).1 (⊎_elim (λ old. inl old) (λ safe. inr (safe.0, safe.1, slice_get_within modules safe.0 safe.1 safe.2, safe.2, safe.3)) either)),
)
