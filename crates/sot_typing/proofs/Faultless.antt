-- What the absence of faults says of the parts of an expression, and what is made of those parts.
use Rattle.std.proofs.Common.{◌≡◌, List, [], ◌∷◌, ◌++◌, Bool, true, false, ◌||◌, nat_abs, Result, Ok, Err, IfOk, refl, ap, ap₂, sym, ◌∙◌}
use Rattle.std.specs.List.{list_any}
use Rattle.sot_text.specs.declared.token.Span.{Span}
use Rattle.sot_syntax_tree.specs.declared.operator.Op.{Op}
use Rattle.sot_syntax_tree.specs.declared.operator.Func.{Func}
use Rattle.sot_syntax_tree.specs.declared.tree.Lit.{Lit}
use Rattle.sot_syntax_tree.specs.Trees.{Tree, Trees, binary, rest, negated, denied, called, rescaled, chosen}
use Rattle.sot_rules.specs.declared.fault.TypeKind.{TypeKind}
use Rattle.sot_rules.specs.declared.expressions.sort.Sort.{Sort}
use Rattle.sot_rules.specs.declared.expressions.sort.Sort.TheVariants.{Scaled}
use Rattle.sot_rules.specs.Sorts.{is_truthful, is_scaled, differ, kinds_misfit, scales_misfit, operator_sort, unless, given, some_differ, call_sort}
use Rattle.sot_rules.specs.Sorts.{branches_misfit}
use Rattle.sot_rules.specs.Names.{Thing}
use Rattle.sot_rules.specs.TreeSorts.{is_no_scale, sort, sorts}
use Rattle.sot_rules.specs.Faults.{when, misfits, tree_faults, parts_faults}
use Rattle.sot_typing.specs.declared.code.terms.Sorted.{Sorted}
use Rattle.sot_typing.specs.declared.code.terms.SortedList.{SortedList}
use Rattle.sot_typing.specs.Formulas as to
use Rattle.sot_typing.specs.Formulas.{formula_view}
use Rattle.sot_typing.specs.Terms.{sort_scale, formula_of, formulas_of}
use Rattle.sot_typing.specs.Sorted.{formulas_view, IsSorted, AreSorted}

pub nil_left : {X : Type 0} (xs ys : List X) → xs ++ ys ≡ [] → xs ≡ []
nil_left [] ys h = refl
nil_left (x ∷ xs) ys h = cc

pub nil_right : {X : Type 0} (xs ys : List X) → xs ++ ys ≡ [] → ys ≡ []
nil_right [] ys h = h
nil_right (x ∷ xs) ys h = cc

pub when_not : (b : Bool) (at : Span) (k : TypeKind) → when b at k ≡ [] → b ≡ false
when_not true at k h = cc
when_not false at k h = refl

pub misfits_not : (a b : Bool) (at : Span) → misfits a b at ≡ [] → (a ≡ false) × (b ≡ false)
misfits_not a b at h = (when_not a at _ (nil_left _ _ h), when_not b at _ (nil_right _ _ h))

neither : (a b : Bool) (s : Sort) → a ≡ false → b ≡ false → unless (a || b) s ≡ s
neither a b s p q = ap₂ (λ x y. unless (x || y) s) p q

pub if_ok : {A E : Type 0} {P Q : A → Type 0} (r : Result A E) → ((x : A) → P x → Q x) → IfOk r P → IfOk r Q
if_ok (Ok x) f h = f x h
if_ok (Err e) f h = tt

module _ (names : List Thing) (op : Op) (l r : Tree) (at : Span) (e : Tree) (is : e ≡ binary op l r at) (h : tree_faults names e ≡ []) where
  binary_faults : tree_faults names (binary op l r at) ≡ []
  binary_faults = sym (ap (tree_faults names) is) ∙ h

  pub binary_left : tree_faults names l ≡ []
  binary_left = nil_left _ _ binary_faults

  binary_more : tree_faults names r ++ misfits (kinds_misfit op (sort names l) (sort names r)) (scales_misfit op (sort names l) (sort names r)) at ≡ []
  binary_more = nil_right (tree_faults names l) _ binary_faults

  pub binary_right : tree_faults names r ≡ []
  binary_right = nil_left _ _ binary_more

  binary_fits : (kinds_misfit op (sort names l) (sort names r) ≡ false) × (scales_misfit op (sort names l) (sort names r) ≡ false)
  binary_fits = misfits_not _ _ at (nil_right (tree_faults names r) _ binary_more)

  module _ (a b : Sorted) (p : IsSorted (formula_of names l) (sort names l) a) (q : IsSorted (formula_of names r) (sort names r) b) where
    pub scales_fit : scales_misfit op a.sort b.sort ≡ false
    scales_fit = ap₂ (scales_misfit op) p.sort q.sort ∙ binary_fits.1

    pub joined_is : (m : Sorted) → IsSorted (to.binary op (formula_view a.term) (formula_view b.term) at)
        (given a.sort (given b.sort (operator_sort op a.sort b.sort))) m → IsSorted (formula_of names e) (sort names e) m
    joined_is m d = record {
      form = d.form ∙ ap₂ (λ x y. to.binary op x y at) p.form q.form ∙ sym (ap (formula_of names) is);
      sort =
          d.sort ∙ ap₂ (λ x y. given x (given y (operator_sort op x y))) p.sort q.sort ∙ sym (neither _ _ _ binary_fits.0 binary_fits.1)
          ∙ sym (ap (sort names) is);
      decimals = d.decimals;
    }

holds : (b : Bool) (s : Sort) → b ≡ false → unless b s ≡ s
holds b s p = ap (λ x. unless x s) p

module _ (names : List Thing) (part : Tree) (d : Lit) (at : Span) (e : Tree) (is : e ≡ rest part d at) (h : tree_faults names e ≡ []) where
  rest_faults : tree_faults names (rest part d at) ≡ []
  rest_faults = sym (ap (tree_faults names) is) ∙ h

  pub rest_part : tree_faults names part ≡ []
  rest_part = nil_left _ _ rest_faults

module _ (names : List Thing) (part : Tree) (at : Span) (e : Tree) (is : e ≡ negated part at) (h : tree_faults names e ≡ []) where
  negated_faults : tree_faults names (negated part at) ≡ []
  negated_faults = sym (ap (tree_faults names) is) ∙ h

  pub negated_part : tree_faults names part ≡ []
  negated_part = nil_left _ _ negated_faults

  pub negated_is : (a : Sorted) → IsSorted (formula_of names part) (sort names part) a → (m : Sorted) → IsSorted (to.negated (formula_view a.term) at) a.sort m
      → IsSorted (formula_of names e) (sort names e) m
  negated_is a p m q = record {
    form = q.form ∙ ap (λ x. to.negated x at) p.form ∙ sym (ap (formula_of names) is);
    sort =
        q.sort ∙ p.sort ∙ sym (holds _ _ (when_not (is_truthful (sort names part)) at _ (nil_right (tree_faults names part) _ negated_faults)))
        ∙ sym (ap (sort names) is);
    decimals = q.decimals;
  }

module _ (names : List Thing) (part : Tree) (at : Span) (e : Tree) (is : e ≡ denied part at) (h : tree_faults names e ≡ []) where
  denied_faults : tree_faults names (denied part at) ≡ []
  denied_faults = sym (ap (tree_faults names) is) ∙ h

  pub denied_part : tree_faults names part ≡ []
  denied_part = nil_left _ _ denied_faults

  pub denied_is : (a : Sorted) → IsSorted (formula_of names part) (sort names part) a → (m : Sorted) → IsSorted (to.denied (formula_view a.term) at) a.sort m
      → IsSorted (formula_of names e) (sort names e) m
  denied_is a p m q = record {
    form = q.form ∙ ap (λ x. to.denied x at) p.form ∙ sym (ap (formula_of names) is);
    sort =
        q.sort ∙ p.sort ∙ sym (holds _ _ (when_not (is_scaled (sort names part)) at _ (nil_right (tree_faults names part) _ denied_faults)))
        ∙ sym (ap (sort names) is);
    decimals = q.decimals;
  }

module _ (names : List Thing) (part : Tree) (d : Lit) (at : Span) (e : Tree) (is : e ≡ rescaled part d at) (h : tree_faults names e ≡ []) where
  rescaled_faults : tree_faults names (rescaled part d at) ≡ []
  rescaled_faults = sym (ap (tree_faults names) is) ∙ h

  pub rescaled_part : tree_faults names part ≡ []
  rescaled_part = nil_left _ _ rescaled_faults

  pub is_scale : is_no_scale d ≡ false
  is_scale = when_not (is_no_scale d) d.at _ (nil_right (when (is_truthful (sort names part)) at _) _ (nil_right (tree_faults names part) _ rescaled_faults))

  is_number : is_truthful (sort names part) ≡ false
  is_number = when_not (is_truthful (sort names part)) at _ (nil_left _ _ (nil_right (tree_faults names part) _ rescaled_faults))

  pub rescaled_is : (a : Sorted) → IsSorted (formula_of names part) (sort names part) a → (m : Sorted)
      → IsSorted (to.rescaled (formula_view a.term) (sort_scale a.sort) (nat_abs d.mantissa) at) (given a.sort (Scaled (nat_abs d.mantissa))) m
      → IsSorted (formula_of names e) (sort names e) m
  rescaled_is a p m q = record {
    form = q.form ∙ ap₂ (λ x s. to.rescaled x (sort_scale s) (nat_abs d.mantissa) at) p.form p.sort ∙ sym (ap (formula_of names) is);
    sort = q.sort ∙ ap (λ s. given s (Scaled (nat_abs d.mantissa))) p.sort ∙ sym (neither _ _ _ is_number is_scale) ∙ sym (ap (sort names) is);
    decimals = q.decimals;
  }

module _ (names : List Thing) (c l r : Tree) (at : Span) (e : Tree) (is : e ≡ chosen c l r at) (h : tree_faults names e ≡ []) where
  chosen_faults : tree_faults names (chosen c l r at) ≡ []
  chosen_faults = sym (ap (tree_faults names) is) ∙ h

  pub condition : tree_faults names c ≡ []
  condition = nil_left _ _ chosen_faults

  branches : tree_faults names l ++ (tree_faults names r ++ misfits (branches_misfit (sort names c) (sort names l) (sort names r))
      (differ (sort names l) (sort names r)) at) ≡ []
  branches = nil_right (tree_faults names c) _ chosen_faults

  pub first_branch : tree_faults names l ≡ []
  first_branch = nil_left _ _ branches

  pub second_branch : tree_faults names r ≡ []
  second_branch = nil_left _ _ (nil_right (tree_faults names l) _ branches)

  branches_fit : (branches_misfit (sort names c) (sort names l) (sort names r) ≡ false) × (differ (sort names l) (sort names r) ≡ false)
  branches_fit = misfits_not _ _ at (nil_right (tree_faults names r) _ (nil_right (tree_faults names l) _ branches))

  module _ (k a b : Sorted) (o : IsSorted (formula_of names c) (sort names c) k) (p : IsSorted (formula_of names l) (sort names l) a)
      (q : IsSorted (formula_of names r) (sort names r) b) where
    pub chosen_is : (m : Sorted) → IsSorted (to.chosen (formula_view k.term) (formula_view a.term) (formula_view b.term) at)
        (given k.sort (given b.sort a.sort)) m → IsSorted (formula_of names e) (sort names e) m
    chosen_is m d = record {
      form =
          d.form ∙ ap (λ x. to.chosen x (formula_view a.term) (formula_view b.term) at) o.form
          ∙ ap₂ (λ x y. to.chosen (formula_of names c) x y at) p.form q.form ∙ sym (ap (formula_of names) is);
      sort =
          d.sort ∙ ap (λ x. given x (given b.sort a.sort)) o.sort ∙ ap₂ (λ x y. given (sort names c) (given y x)) p.sort q.sort
          ∙ sym (neither _ _ _ branches_fit.0 branches_fit.1) ∙ sym (ap (sort names) is);
      decimals = d.decimals;
    }

module _ (names : List Thing) (f : Func) (parts : Trees) (at : Span) (e : Tree) (is : e ≡ called f parts at) (h : tree_faults names e ≡ []) where
  called_faults : tree_faults names (called f parts at) ≡ []
  called_faults = sym (ap (tree_faults names) is) ∙ h

  pub called_parts : parts_faults names parts ≡ []
  called_parts = nil_left _ _ called_faults

  parts_fit : (list_any is_truthful (sorts names parts) ≡ false) × (some_differ (sorts names parts) ≡ false)
  parts_fit = misfits_not _ _ at (nil_right (parts_faults names parts) _ called_faults)

  pub called_is : (a : SortedList) → AreSorted (formulas_of names parts) (call_sort (sorts names parts)) a → (m : Sorted)
      → IsSorted (to.called f (formulas_view a.terms.items) at) a.sort m → IsSorted (formula_of names e) (sort names e) m
  called_is a p m q = record {
    form = q.form ∙ ap (λ x. to.called f x at) p.form ∙ sym (ap (formula_of names) is);
    sort = q.sort ∙ p.sort ∙ sym (neither _ _ _ parts_fit.0 parts_fit.1) ∙ sym (ap (sort names) is);
    decimals = q.decimals;
  }
