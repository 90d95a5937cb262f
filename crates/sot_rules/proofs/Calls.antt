-- A call, from what is kept of its operands.
use Rattle.std.proofs.Common.{◌≡◌, ◌∙◌, ◌||◌, List, Option, ap, sym, fold}
use Rattle.std.specs.List.{list_any}
use Rattle.std.specs.Global.{Box, Vec}
use Rattle.sot_text.specs.declared.token.Span.{Span}
use Rattle.sot_syntax_tree.specs.declared.operator.Func.{Func}
use Rattle.sot_syntax_tree.specs.declared.tree.Expr.{Expr, Call}
use Rattle.sot_syntax_tree.specs.TreeViews.{tree_view, parts_view}
use Rattle.sot_syntax_tree.proofs.CallRows.{call_view}
use Rattle.sot_rules.specs.declared.fault.TypeFault.{TypeFault}
use Rattle.sot_rules.specs.declared.expressions.operands.Operands.{Operands}
use Rattle.sot_rules.specs.Sorts.{is_truthful, some_differ, call_sort, unless}
use Rattle.sot_rules.specs.Names.{Thing}
use Rattle.sot_rules.specs.TreeSorts.{sort, sorts}
use Rattle.sot_rules.specs.Faults.{least, misfits, tree_faults, parts_faults}
use Rattle.sot_rules.specs.Operands.{no_operand, with_operand}
use Rattle.sot_rules.proofs.Least.{least_append}
use Rattle.sot_rules.proofs.Loops.{truth_of, differ_of, sort_of}

module _ (names : List Thing) (f : Func) (v : Box (Vec Expr)) (at : Span) (o : Operands)
    (e : o ≡ fold with_operand no_operand (sorts names (parts_view v.value.items))) where
  truth_is : o.truth ≡ list_any is_truthful (sorts names (parts_view v.value.items))
  truth_is = ap (λ (z : Operands). z.truth) e ∙ truth_of no_operand (sorts names (parts_view v.value.items))

  differ_is : o.differ ≡ some_differ (sorts names (parts_view v.value.items))
  differ_is = ap (λ (z : Operands). z.differ) e ∙ differ_of no_operand (sorts names (parts_view v.value.items))

  sort_is : o.sort ≡ call_sort (sorts names (parts_view v.value.items))
  sort_is = ap (λ (z : Operands). z.sort) e ∙ sort_of no_operand (sorts names (parts_view v.value.items))

  pub call_is : unless (o.truth || o.differ) o.sort ≡ sort names (tree_view (Call f v at))
  call_is =
      ap (λ z. unless (z || o.differ) o.sort) truth_is
      ∙ ap (λ z. unless (list_any is_truthful (sorts names (parts_view v.value.items)) || z) o.sort) differ_is
      ∙ ap (λ z. unless (list_any is_truthful (sorts names (parts_view v.value.items)) || some_differ (sorts names (parts_view v.value.items))) z) sort_is
      ∙ sym (ap (sort names) (call_view f v at))

  pub call_noted : (a b c : Option TypeFault) → b ≡ least a (parts_faults names (parts_view v.value.items)) → c ≡ least b (misfits o.truth o.differ at)
      → c ≡ least a (tree_faults names (tree_view (Call f v at)))
  call_noted a b c p q =
      q
      ∙ ap (λ z. least z (misfits o.truth o.differ at)) p
      ∙ ap (λ z. least (least a (parts_faults names (parts_view v.value.items))) (misfits z o.differ at)) truth_is
      ∙ ap (λ z. least (least a (parts_faults names (parts_view v.value.items))) (misfits (list_any is_truthful (sorts names (parts_view v.value.items))) z at))
      differ_is
      ∙ sym (least_append a (parts_faults names (parts_view v.value.items))
      (misfits (list_any is_truthful (sorts names (parts_view v.value.items))) (some_differ (sorts names (parts_view v.value.items))) at))
      ∙ sym (ap (λ z. least a (tree_faults names z)) (call_view f v at))
