-- Lists that are equal to a list of one, or of none; expressions that are this one.
use Rattle.std.proofs.Common.{◌≡◌, ℕ, Bool, List, [], ◌∷◌, refl, sym, subst}
use Rattle.std.proofs.lemmas.Option.{none-some}
use Rattle.sot_lists.specs.Places.{At, Has}
use Rattle.sot_lang.specs.declared.term.Term.{Term}
use Rattle.sot_lang.specs.TermRules.{TermFits}
use Rattle.sot_lists.proofs.ShortLists.{at_one}

module _ {A : Type 0} where
  -- what is in it
  pub only : (a : A) (xs : List A) → xs ≡ a ∷ [] → (x : A) → Has xs x → a ≡ x
  only a xs e x h = at_one (λ k y. a ≡ y) a refl h.0 x (subst (λ l. At l h.0 x) e h.1)

  -- where it stands
  pub only_place : (a : A) (xs : List A) → xs ≡ a ∷ [] → (k : ℕ) (x : A) → At xs k x → k ≡ 0
  only_place a xs e k x at = at_one (λ k y. k ≡ 0) a refl k x (subst (λ l. At l k x) e at)

  -- nothing is in none
  pub nothing : (xs : List A) → xs ≡ [] → (k : ℕ) (x : A) → At xs k x → ⊥
  nothing xs e k x at = none-some x (subst (λ l. At l k x) e at)

-- an expression that is this one fits where this one does
pub fits_as : (names : List Bool) (one : Term) → TermFits names one → (truths : List Bool) (t : Term) → truths ≡ names → t ≡ one → TermFits truths t
fits_as names one h truths t e is = subst (λ ts. TermFits ts t) (sym e) (subst (TermFits names) (sym is) h)
