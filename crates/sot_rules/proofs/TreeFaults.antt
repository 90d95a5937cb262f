-- An expression's list of faults has exactly the rules that fail in it.
use Rattle.std.proofs.Common.{List}
use Rattle.std.specs.List.{list_any}
use Rattle.sot_text.specs.declared.token.Span.{Span}
use Rattle.sot_syntax_tree.specs.Trees.{Tree, Trees, number, truth, named, binary, rest, negated, denied, called, rescaled, chosen, no_tree, one_more}
use Rattle.sot_rules.specs.declared.fault.TypeKind.{TypeKind}
use Rattle.sot_rules.specs.declared.fault.TypeKind.TheVariants.{ScaleDiffers, KindDiffers}
use Rattle.sot_rules.specs.declared.expressions.sort.Sort.{Sort}
use Rattle.sot_rules.specs.declared.expressions.sort.Sort.TheVariants.{Scaled}
use Rattle.sot_rules.specs.Sorts.{is_truthful, is_scaled, differ, are_mixed, kinds_misfit, scales_misfit, some_differ, branches_misfit}
use Rattle.sot_rules.specs.Names.{Thing, Reading, reading, reading_sort}
use Rattle.sot_rules.specs.TreeSorts.{is_no_scale, is_zero, sort, sorts}
use Rattle.sot_rules.specs.Fails.{TreeFails, PartsFail, unknown, operands_kind, operands_scale, rest_kind, rest_scale, rest_zero, negated_truth, denied_number}
use Rattle.sot_rules.specs.Fails.{call_kind, call_scale, rescaled_truth, rescaled_far, branches_kind, branches_scale, in_left, in_right, in_rest, in_negated}
use Rattle.sot_rules.specs.Fails.{in_denied, in_call, in_rescaled, in_condition, in_then, in_else, in_first, in_later, TargetFails, no_target, target_kind}
use Rattle.sot_rules.specs.Fails.{target_scale}
use Rattle.sot_rules.specs.Faults.{fault, when, misfits, reading_faults, tree_faults, parts_faults, target_faults}
use Rattle.sot_rules.proofs.Members.{In, before, after, split, in_when, of_when, in_kind, in_scale, of_misfits, in_reading, of_reading}

mutual
  pub tree_in : (names : List Thing) {e : Tree} {at : Span} {k : TypeKind} → TreeFails names e at k → In (fault at k) (tree_faults names e)
  tree_in names (unknown {first = first} {field = field} {at = at} r) = in_reading (reading names first field) at r
  tree_in names (operands_kind {op = op} {a = a} {b = b} {at = at} h) =
      after _ (tree_faults names a) _ (after _ (tree_faults names b) _ (in_kind (kinds_misfit op (sort names a) (sort names b)) _ at h))
  tree_in names (operands_scale {op = op} {a = a} {b = b} {at = at} h) =
      after _ (tree_faults names a) _ (after _ (tree_faults names b) _ (in_scale _ (scales_misfit op (sort names a) (sort names b)) at h))
  tree_in names (rest_kind {a = a} {by = by} {at = at} h) =
      after _ (tree_faults names a) _ (before _ (misfits (is_truthful (sort names a)) (differ (sort names a) (Scaled by.scale)) at) _
      (in_kind (is_truthful (sort names a)) _ at h))
  tree_in names (rest_scale {a = a} {by = by} {at = at} h) =
      after _ (tree_faults names a) _ (before _ (misfits (is_truthful (sort names a)) (differ (sort names a) (Scaled by.scale)) at) _
      (in_scale _ (differ (sort names a) (Scaled by.scale)) at h))
  tree_in names (rest_zero {a = a} {by = by} {at = at} h) =
      after _ (tree_faults names a) _ (after _ (misfits (is_truthful (sort names a)) (differ (sort names a) (Scaled by.scale)) at) _
      (in_when (is_zero by) by.at KindDiffers h))
  tree_in names (negated_truth {a = a} {at = at} h) = after _ (tree_faults names a) _ (in_when (is_truthful (sort names a)) at KindDiffers h)
  tree_in names (denied_number {a = a} {at = at} h) = after _ (tree_faults names a) _ (in_when (is_scaled (sort names a)) at KindDiffers h)
  tree_in names (call_kind {parts = parts} {at = at} h) = after _ (parts_faults names parts) _ (in_kind (list_any is_truthful (sorts names parts)) _ at h)
  tree_in names (call_scale {parts = parts} {at = at} h) = after _ (parts_faults names parts) _ (in_scale _ (some_differ (sorts names parts)) at h)
  tree_in names (rescaled_truth {a = a} {to = to} {at = at} h) =
      after _ (tree_faults names a) _ (before _ (when (is_truthful (sort names a)) at KindDiffers) _ (in_when (is_truthful (sort names a)) at KindDiffers h))
  tree_in names (rescaled_far {a = a} {to = to} {at = at} h) =
      after _ (tree_faults names a) _ (after _ (when (is_truthful (sort names a)) at KindDiffers) _ (in_when (is_no_scale to) to.at ScaleDiffers h))
  tree_in names (branches_kind {c = c} {a = a} {b = b} {at = at} h) =
      after _ (tree_faults names c) _ (after _ (tree_faults names a) _
      (after _ (tree_faults names b) _ (in_kind (branches_misfit (sort names c) (sort names a) (sort names b)) _ at h)))
  tree_in names (branches_scale {c = c} {a = a} {b = b} {at = at} h) =
      after _ (tree_faults names c) _ (after _ (tree_faults names a) _
      (after _ (tree_faults names b) _ (in_scale _ (differ (sort names a) (sort names b)) at h)))
  tree_in names (in_left {a = a} h) = before _ (tree_faults names a) _ (tree_in names h)
  tree_in names (in_right {a = a} {b = b} h) = after _ (tree_faults names a) _ (before _ (tree_faults names b) _ (tree_in names h))
  tree_in names (in_rest {a = a} h) = before _ (tree_faults names a) _ (tree_in names h)
  tree_in names (in_negated {a = a} h) = before _ (tree_faults names a) _ (tree_in names h)
  tree_in names (in_denied {a = a} h) = before _ (tree_faults names a) _ (tree_in names h)
  tree_in names (in_call {parts = parts} h) = before _ (parts_faults names parts) _ (parts_in names h)
  tree_in names (in_rescaled {a = a} h) = before _ (tree_faults names a) _ (tree_in names h)
  tree_in names (in_condition {c = c} h) = before _ (tree_faults names c) _ (tree_in names h)
  tree_in names (in_then {c = c} {a = a} h) = after _ (tree_faults names c) _ (before _ (tree_faults names a) _ (tree_in names h))
  tree_in names (in_else {c = c} {a = a} {b = b} h) =
      after _ (tree_faults names c) _ (after _ (tree_faults names a) _ (before _ (tree_faults names b) _ (tree_in names h)))

  pub parts_in : (names : List Thing) {parts : Trees} {at : Span} {k : TypeKind} → PartsFail names parts at k → In (fault at k) (parts_faults names parts)
  parts_in names (in_first {e = e} h) = before _ (tree_faults names e) _ (tree_in names h)
  parts_in names (in_later {e = e} h) = after _ (tree_faults names e) _ (parts_in names h)

mutual
  pub of_tree : (names : List Thing) (e : Tree) (at : Span) (k : TypeKind) → In (fault at k) (tree_faults names e) → TreeFails names e at k
  of_tree names (number l) at k h = absurd h
  of_tree names (truth b w) at k h = absurd h
  of_tree names (named first field) at k h = of_reading (TreeFails names (named first field)) (reading names first field) (λ w r. unknown r) at k h
  of_tree names (binary op a b w) at k h =
      split (fault at k) (tree_faults names a) _ h (λ x. in_left (of_tree names a at k x))
      (λ x. split (fault at k) (tree_faults names b) _ x (λ y. in_right (of_tree names b at k y))
      (λ y. of_misfits (TreeFails names (binary op a b w)) (kinds_misfit op (sort names a) (sort names b)) (scales_misfit op (sort names a) (sort names b)) w
      (λ q. operands_kind q) (λ q. operands_scale q) at k y))
  of_tree names (rest a by w) at k h =
      split (fault at k) (tree_faults names a) _ h (λ x. in_rest (of_tree names a at k x))
      (λ x. split (fault at k) (misfits (is_truthful (sort names a)) (differ (sort names a) (Scaled by.scale)) w) _ x
      (λ y. of_misfits (TreeFails names (rest a by w)) (is_truthful (sort names a)) (differ (sort names a) (Scaled by.scale)) w (λ q. rest_kind q)
      (λ q. rest_scale q) at k y)
      (λ y. of_when (TreeFails names (rest a by w)) (is_zero by) by.at KindDiffers (λ q. rest_zero q) at k y))
  of_tree names (negated a w) at k h =
      split (fault at k) (tree_faults names a) _ h (λ x. in_negated (of_tree names a at k x))
      (λ x. of_when (TreeFails names (negated a w)) (is_truthful (sort names a)) w KindDiffers (λ q. negated_truth q) at k x)
  of_tree names (denied a w) at k h =
      split (fault at k) (tree_faults names a) _ h (λ x. in_denied (of_tree names a at k x))
      (λ x. of_when (TreeFails names (denied a w)) (is_scaled (sort names a)) w KindDiffers (λ q. denied_number q) at k x)
  of_tree names (called f parts w) at k h =
      split (fault at k) (parts_faults names parts) _ h (λ x. in_call (of_parts names parts at k x))
      (λ x. of_misfits (TreeFails names (called f parts w)) (list_any is_truthful (sorts names parts)) (some_differ (sorts names parts)) w (λ q. call_kind q)
      (λ q. call_scale q) at k x)
  of_tree names (rescaled a to w) at k h =
      split (fault at k) (tree_faults names a) _ h (λ x. in_rescaled (of_tree names a at k x))
      (λ x. split (fault at k) (when (is_truthful (sort names a)) w KindDiffers) _ x
      (λ y. of_when (TreeFails names (rescaled a to w)) (is_truthful (sort names a)) w KindDiffers (λ q. rescaled_truth q) at k y)
      (λ y. of_when (TreeFails names (rescaled a to w)) (is_no_scale to) to.at ScaleDiffers (λ q. rescaled_far q) at k y))
  of_tree names (chosen c a b w) at k h =
      split (fault at k) (tree_faults names c) _ h (λ x. in_condition (of_tree names c at k x))
      (λ x. split (fault at k) (tree_faults names a) _ x (λ y. in_then (of_tree names a at k y))
      (λ y. split (fault at k) (tree_faults names b) _ y (λ z. in_else (of_tree names b at k z))
      (λ z. of_misfits (TreeFails names (chosen c a b w)) (branches_misfit (sort names c) (sort names a) (sort names b)) (differ (sort names a) (sort names b))
      w (λ q. branches_kind q) (λ q. branches_scale q) at k z)))

  pub of_parts : (names : List Thing) (parts : Trees) (at : Span) (k : TypeKind) → In (fault at k) (parts_faults names parts) → PartsFail names parts at k
  of_parts names no_tree at k h = absurd h
  of_parts names (one_more e more) at k h =
      split (fault at k) (tree_faults names e) _ h
      (λ x. in_first (of_tree names e at k x))
      (λ x. in_later (of_parts names more at k x))

-- a target
pub target_in : (target : Reading) (value : Sort) (w : Span) {at : Span} {k : TypeKind} → TargetFails target value w at k
    → In (fault at k) (target_faults target value w)
target_in target value w (no_target {at = at} r) = before _ (reading_faults target) _ (in_reading target at r)
target_in target value w (target_kind h) = after _ (reading_faults target) _ (in_kind (are_mixed (reading_sort target) value) _ w h)
target_in target value w (target_scale h) = after _ (reading_faults target) _ (in_scale _ (differ (reading_sort target) value) w h)

pub of_target : (target : Reading) (value : Sort) (w at : Span) (k : TypeKind) → In (fault at k) (target_faults target value w)
    → TargetFails target value w at k
of_target target value w at k h =
    split (fault at k) (reading_faults target) _ h
    (λ x. of_reading (TargetFails target value w) target (λ v r. no_target r) at k x)
    (λ x. of_misfits (TargetFails target value w) (are_mixed (reading_sort target) value) (differ (reading_sort target) value) w (λ q. target_kind q)
    (λ q. target_scale q) at k x)
