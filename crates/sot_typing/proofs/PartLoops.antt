-- Steps of the loop over the parts of a call.
use Rattle.std.proofs.Common.{◌≡◌, ℕ, ◌+◌, ◌<◌, ◌≤◌, List, [], ◌∷◌, ◌++◌, length, get_or, drop, sym, ap, ◌∙◌, fold, arith}
use Rattle.std.proofs.lemmas.List.{drop_all}
use Rattle.sot_syntax_tree.specs.declared.tree.Expr.{Expr}
use Rattle.sot_lang.specs.declared.term.Term.{Term}
use Rattle.sot_syntax_tree.specs.TreeViews.{tree_view, parts_view}
use Rattle.sot_rules.specs.declared.expressions.sort.Sort.{Sort}
use Rattle.sot_rules.specs.declared.expressions.sort.Sort.TheVariants.{Scaled, Truthful, Anything}
use Rattle.sot_rules.specs.Sorts.{given, call_sort}
use Rattle.sot_rules.specs.Names.{Thing}
use Rattle.sot_rules.specs.TreeSorts.{sort, sorts}
use Rattle.sot_rules.specs.Faults.{tree_faults, parts_faults}
use Rattle.sot_rules.proofs.Loops.{rest_is}
use Rattle.sot_typing.specs.declared.code.terms.Sorted.{Sorted}
use Rattle.sot_typing.specs.declared.code.terms.SortedList.{SortedList}
use Rattle.sot_typing.specs.Formulas.{one_more}
use Rattle.sot_typing.specs.Terms.{sort_scale, formula_of, formulas_of}
use Rattle.sot_typing.specs.Sorted.{IsSorted, AreSorted}
use Rattle.sot_typing.proofs.Faultless.{nil_left, nil_right}
use Rattle.sot_typing.proofs.Prefixes.{parts_then, parts_push, parts_end}

-- a sort with few decimals stays one
pub given_decimals : (s r : Sort) → sort_scale r ≤ 255 → sort_scale (given s r) ≤ 255
given_decimals (Scaled n) r h = h
given_decimals Truthful r h = h
given_decimals Anything r h = omega arith

module _ (names : List Thing) (es : List Expr) (i : ℕ) where
  module _ (x : Expr) (lt : i < length es) (e : x ≡ get_or es i x) (faultless : parts_faults names (parts_view (drop i es)) ≡ []) where
    here : parts_faults names (parts_view (x ∷ drop (i + 1) es)) ≡ []
    here = sym (ap (λ z. parts_faults names (parts_view z)) (rest_is es i x lt e)) ∙ faultless

    pub part_faultless : tree_faults names (tree_view x) ≡ []
    part_faultless = nil_left _ _ here

    pub rest_faultless : parts_faults names (parts_view (drop (i + 1) es)) ≡ []
    rest_faultless = nil_right (tree_faults names (tree_view x)) _ here

  module _ (x : Expr) (lt : i < length es) (e : x ≡ get_or es i x) (a : Sorted) (p : IsSorted (formula_of names (tree_view x)) (sort names (tree_view x)) a)
    where
      pub form_next : (ts us : List Term) → us ≡ ts ++ a.term ∷ []
          → parts_then ts (formulas_of names (parts_view (drop i es))) ≡ formulas_of names (parts_view es)
          → parts_then us (formulas_of names (parts_view (drop (i + 1) es))) ≡ formulas_of names (parts_view es)
      form_next ts us push inv =
          ap (λ z. parts_then z (formulas_of names (parts_view (drop (i + 1) es)))) push
          ∙ parts_push ts a.term (formulas_of names (parts_view (drop (i + 1) es)))
          ∙ ap (λ z. parts_then ts (one_more z (formulas_of names (parts_view (drop (i + 1) es))))) p.form
          ∙ sym (ap (λ z. parts_then ts (formulas_of names (parts_view z))) (rest_is es i x lt e))
          ∙ inv

      pub sort_next : (s r : Sort) → r ≡ given s a.sort → fold given s (sorts names (parts_view (drop i es))) ≡ call_sort (sorts names (parts_view es))
          → fold given r (sorts names (parts_view (drop (i + 1) es))) ≡ call_sort (sorts names (parts_view es))
      sort_next s r now inv =
          ap (λ z. fold given z (sorts names (parts_view (drop (i + 1) es)))) (now ∙ ap (given s) p.sort)
          ∙ sym (ap (λ z. fold given s (sorts names (parts_view z))) (rest_is es i x lt e))
          ∙ inv

  pub parts_done : (m : SortedList) → length es ≤ i → parts_then m.terms.items (formulas_of names (parts_view (drop i es))) ≡ formulas_of names (parts_view es)
      → fold given m.sort (sorts names (parts_view (drop i es))) ≡ call_sort (sorts names (parts_view es)) → sort_scale m.sort ≤ 255
      → AreSorted (formulas_of names (parts_view es)) (call_sort (sorts names (parts_view es))) m
  parts_done m le form kind decimals = record {
    form = parts_end m.terms.items ∙ sym (ap (λ z. parts_then m.terms.items (formulas_of names (parts_view z))) (drop_all i es le)) ∙ form;
    sort = sym (ap (λ z. fold given m.sort (sorts names (parts_view z))) (drop_all i es le)) ∙ kind;
    decimals = decimals;
  }
