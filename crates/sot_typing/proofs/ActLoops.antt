-- Statements without faults, part by part, and the loop over the statements of a block.
use Rattle.std.proofs.Common.{◌≡◌, ℕ, ◌+◌, ◌<◌, ◌≤◌, List, [], ◌∷◌, ◌++◌, length, get_or, drop, nat_abs, sym, ap, ap₂, ◌∙◌}
use Rattle.std.proofs.lemmas.List.{drop_all}
use Rattle.std.specs.Global.{Box, Vec}
use Rattle.sot_text.specs.declared.token.Span.{Span}
use Rattle.sot_syntax_tree.specs.declared.tree.Lit.{Lit}
use Rattle.sot_syntax_tree.specs.declared.tree.Branch.{Branch}
use Rattle.sot_syntax_tree.specs.declared.tree.Stmt.{Stmt, If, Repeat}
use Rattle.sot_lang.specs.declared.term.Term.{Term}
use Rattle.sot_lang.specs.declared.act.Act.{Act, If as IfAct, Repeat as RepeatAct}
use Rattle.sot_syntax_tree.specs.TreeViews.{tree_view, statement_view, block_view}
use Rattle.sot_syntax_tree.proofs.BlockRows.{branch_view, repeat_view}
use Rattle.sot_rules.specs.declared.fault.TypeKind.TheVariants.{ScaleDiffers, KindDiffers, PeriodOutside}
use Rattle.sot_rules.specs.Sorts.{is_scaled}
use Rattle.sot_rules.specs.Names.{Scope}
use Rattle.sot_rules.specs.TreeSorts.{has_decimals, sort}
use Rattle.sot_rules.specs.Tests.{is_off}
use Rattle.sot_rules.specs.Faults.{when, tree_faults, statement_faults, block_faults}
use Rattle.sot_rules.proofs.Loops.{rest_is}
use Rattle.sot_typing.specs.Formulas.{branched, repeated, deed, deed_view, deeds_view, formula_view}
use Rattle.sot_typing.specs.Terms.{formula_of, deed_of, deeds_of}
use Rattle.sot_typing.proofs.Faultless.{nil_left, nil_right}
use Rattle.sot_typing.proofs.Prefixes.{deeds_then, deeds_push, deeds_end}
use Rattle.sot_typing.proofs.Rows as rows

module _ (s : Scope) (c : Box Branch) (at : Span) (z : Stmt) (is : z ≡ If c at) where
  module _ (h : statement_faults s (statement_view z) ≡ []) where
    branch_faults : tree_faults s.read (tree_view c.value.cond)
        ++ (when (is_scaled (sort s.read (tree_view c.value.cond))) at KindDiffers
        ++ (block_faults s (block_view c.value.yes.items) ++ block_faults s (block_view c.value.no.items))) ≡ []
    branch_faults = sym (ap (λ x. statement_faults s (statement_view x)) is ∙ ap (statement_faults s) (branch_view c at)) ∙ h

    pub condition_faultless : tree_faults s.read (tree_view c.value.cond) ≡ []
    condition_faultless = nil_left _ _ branch_faults

    blocks : block_faults s (block_view c.value.yes.items) ++ block_faults s (block_view c.value.no.items) ≡ []
    blocks =
        nil_right (when (is_scaled (sort s.read (tree_view c.value.cond))) at KindDiffers) _
        (nil_right (tree_faults s.read (tree_view c.value.cond)) _ branch_faults)

    pub taken_faultless : (xs : List Stmt) → xs ≡ c.value.yes.items → block_faults s (block_view xs) ≡ []
    taken_faultless xs e = ap (λ x. block_faults s (block_view x)) e ∙ nil_left _ _ blocks

    pub other_faultless : (xs : List Stmt) → xs ≡ c.value.no.items → block_faults s (block_view xs) ≡ []
    other_faultless xs e = ap (λ x. block_faults s (block_view x)) e ∙ nil_right (block_faults s (block_view c.value.yes.items)) _ blocks

  pub branch_is : (t : Term) (a b : Vec Act) (xs ys : List Stmt) → xs ≡ c.value.yes.items → ys ≡ c.value.no.items
      → formula_view t ≡ formula_of s.read (tree_view c.value.cond) → deeds_view a.items ≡ deeds_of s (block_view xs)
      → deeds_view b.items ≡ deeds_of s (block_view ys) → deed_view (IfAct t a b) ≡ deed_of s (statement_view z)
  branch_is t a b xs ys e f p q r =
      rows.branch_view t a b
      ∙ ap (λ x. branched x (deeds_view a.items) (deeds_view b.items)) p
      ∙ ap₂ (branched (formula_of s.read (tree_view c.value.cond))) (q ∙ ap (λ x. deeds_of s (block_view x)) e) (r ∙ ap (λ x. deeds_of s (block_view x)) f)
      ∙ sym (ap (λ x. deed_of s (statement_view x)) is ∙ ap (deed_of s) (branch_view c at))

module _ (s : Scope) (times : Lit) (v : Vec Stmt) (at : Span) (z : Stmt) (is : z ≡ Repeat times v at) where
  module _ (h : statement_faults s (statement_view z) ≡ []) where
    repeat_faults : when (has_decimals times) times.at ScaleDiffers ++ (when (is_off times) times.at PeriodOutside ++ block_faults s (block_view v.items)) ≡ []
    repeat_faults = sym (ap (λ x. statement_faults s (statement_view x)) is ∙ ap (statement_faults s) (repeat_view times v at)) ∙ h

    pub body_faultless : (xs : List Stmt) → xs ≡ v.items → block_faults s (block_view xs) ≡ []
    body_faultless xs e =
        ap (λ x. block_faults s (block_view x)) e ∙ nil_right (when (is_off times) times.at PeriodOutside) _
        (nil_right (when (has_decimals times) times.at ScaleDiffers) _ repeat_faults)

  pub repeat_is : (n : ℕ) (a : Vec Act) (xs : List Stmt) → xs ≡ v.items → n ≡ nat_abs times.mantissa → deeds_view a.items ≡ deeds_of s (block_view xs)
      → deed_view (RepeatAct n a) ≡ deed_of s (statement_view z)
  repeat_is n a xs e p q =
      rows.repeat_view n a
      ∙ ap₂ repeated p (q ∙ ap (λ x. deeds_of s (block_view x)) e)
      ∙ sym (ap (λ x. deed_of s (statement_view x)) is ∙ ap (deed_of s) (repeat_view times v at))

module _ (s : Scope) (xs : List Stmt) (i : ℕ) where
  module _ (x : Stmt) (lt : i < length xs) (e : x ≡ get_or xs i x) where
    module _ (faultless : block_faults s (block_view (drop i xs)) ≡ []) where
      here : block_faults s (block_view (x ∷ drop (i + 1) xs)) ≡ []
      here = sym (ap (λ z. block_faults s (block_view z)) (rest_is xs i x lt e)) ∙ faultless

      pub statement_faultless : statement_faults s (statement_view x) ≡ []
      statement_faultless = nil_left _ _ here

      pub rest_faultless : block_faults s (block_view (drop (i + 1) xs)) ≡ []
      rest_faultless = nil_right (statement_faults s (statement_view x)) _ here

    pub deeds_next : (a : Act) → deed_view a ≡ deed_of s (statement_view x) → (us vs : List Act) → vs ≡ us ++ a ∷ []
        → deeds_then us (deeds_of s (block_view (drop i xs))) ≡ deeds_of s (block_view xs)
        → deeds_then vs (deeds_of s (block_view (drop (i + 1) xs))) ≡ deeds_of s (block_view xs)
    deeds_next a p us vs push inv =
        ap (λ z. deeds_then z (deeds_of s (block_view (drop (i + 1) xs)))) push
        ∙ deeds_push us a (deeds_of s (block_view (drop (i + 1) xs)))
        ∙ ap (λ z. deeds_then us (deed z (deeds_of s (block_view (drop (i + 1) xs))))) p
        ∙ sym (ap (λ z. deeds_then us (deeds_of s (block_view z))) (rest_is xs i x lt e))
        ∙ inv

  pub deeds_done : (us : List Act) → length xs ≤ i → deeds_then us (deeds_of s (block_view (drop i xs))) ≡ deeds_of s (block_view xs)
      → deeds_view us ≡ deeds_of s (block_view xs)
  deeds_done us le inv = deeds_end us ∙ sym (ap (λ z. deeds_then us (deeds_of s (block_view z))) (drop_all i xs le)) ∙ inv
