-- Flat forms, one a node, while they are made and taken.
use Rattle.std.proofs.Common.{◌≡◌, ℕ, ⊎_elim, Option, None, List, [], ◌∷◌, ◌++◌, length, sym, ◌∙◌, subst}
use Rattle.std.specs.Prelude.{slice_set}
use Rattle.std.proofs.lemmas.Option.{none-some}
use Rattle.sot_lang.specs.Tables.{Tables}
use Rattle.sot_eval_flat.specs.declared.flat.Flat.{Flat}
use Rattle.sot_eval_flat.specs.FlatForm.{IsFormOf}
use Rattle.sot_fly_worker.proofs.Turning.{last_or_before}
use Rattle.sot_workers.specs.Forms.{AreFormsOf}
use Rattle.sot_workers.proofs.ListFacts.{at_set_cases}

-- none is that of any node
pub no_form : (p : Tables) (n : ℕ) → IsFormOf p n None
no_form p n flat is = absurd (none-some flat is)

-- one more
pub forms_more : (p : Tables) (forms : List (Option Flat)) (form : Option Flat) (k : ℕ) → length forms ≡ k → AreFormsOf p forms → IsFormOf p k form
    → AreFormsOf p (forms ++ form ∷ [])
forms_more p forms form k size are one n x at =
    ⊎_elim (λ before. are n x before) (λ last. subst (IsFormOf p n) (sym last.1) (subst (λ i. IsFormOf p i form) (sym (last.0 ∙ size)) one))
    (last_or_before forms form n x at)

-- one is taken
pub forms_taken : (p : Tables) (forms : List (Option Flat)) (k : ℕ) → AreFormsOf p forms → AreFormsOf p (slice_set forms k None)
forms_taken p forms k are n x at =
    ⊎_elim (λ here. subst (IsFormOf p n) (sym here.1) (no_form p n)) (λ other. are n x other.1) (at_set_cases forms k n None x at)
