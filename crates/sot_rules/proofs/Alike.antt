-- Lists of names that read alike give the same sorts and the same faults.
use Rattle.std.proofs.Common.{◌≡◌, ◌∙◌, ◌++◌, ◌∷◌, ◌||◌, List, None, refl, ap, ap₂}
use Rattle.std.specs.List.{list_any}
use Rattle.sot_syntax_tree.specs.Trees.{Tree, Trees, number, truth, named, binary, rest, negated, denied, called, rescaled, chosen, no_tree, one_more, Statement}
use Rattle.sot_syntax_tree.specs.Trees.{Block, assigned, published, branched, repeated, no_statement, statement}
use Rattle.sot_rules.specs.declared.fault.TypeFault.{TypeFault}
use Rattle.sot_rules.specs.declared.fault.TypeKind.TheVariants.{ScaleDiffers, KindDiffers, PeriodOutside}
use Rattle.sot_rules.specs.declared.expressions.sort.Sort.TheVariants.{Scaled}
use Rattle.std.specs.Prelude.{nat_abs}
use Rattle.sot_rules.specs.Sorts.{is_truthful, is_scaled, differ, kinds_misfit, scales_misfit, operator_sort, unless, given, some_differ, call_sort}
use Rattle.sot_rules.specs.Sorts.{branches_misfit}
use Rattle.sot_rules.specs.Names.{Thing, Scope, reading_sort}
use Rattle.sot_rules.specs.TreeSorts.{has_decimals, is_no_scale, is_zero, sort, sorts}
use Rattle.sot_rules.specs.Tests.{is_off}
use Rattle.sot_rules.specs.Faults.{when, misfits, reading_faults, tree_faults, parts_faults, target_faults, statement_faults, block_faults}
use Rattle.sot_rules.specs.Alike.{ReadsAlike, ScopesAlike}

mutual
  pub sort_alike : (xs ys : List Thing) → ReadsAlike xs ys → (e : Tree) → sort xs e ≡ sort ys e
  sort_alike xs ys h (number l) = refl
  sort_alike xs ys h (truth b at) = refl
  sort_alike xs ys h (named first field) = ap reading_sort (h first field)
  sort_alike xs ys h (binary op a b at) =
      ap₂ (λ s t. unless (kinds_misfit op s t || scales_misfit op s t) (given s (given t (operator_sort op s t)))) (sort_alike xs ys h a) (sort_alike xs ys h b)
  sort_alike xs ys h (rest a by at) = ap (λ s. unless (is_truthful s || (differ s (Scaled by.scale) || is_zero by)) s) (sort_alike xs ys h a)
  sort_alike xs ys h (negated a at) = ap (λ s. unless (is_truthful s) s) (sort_alike xs ys h a)
  sort_alike xs ys h (denied a at) = ap (λ s. unless (is_scaled s) s) (sort_alike xs ys h a)
  sort_alike xs ys h (called f parts at) = ap (λ ss. unless (list_any is_truthful ss || some_differ ss) (call_sort ss)) (sorts_alike xs ys h parts)
  sort_alike xs ys h (rescaled a to at) = ap (λ s. unless (is_truthful s || is_no_scale to) (given s (Scaled (nat_abs to.mantissa)))) (sort_alike xs ys h a)
  sort_alike xs ys h (chosen c a b at) =
      ap (λ r. unless (branches_misfit r (sort xs a) (sort xs b) || differ (sort xs a) (sort xs b)) (given r (given (sort xs b) (sort xs a))))
      (sort_alike xs ys h c)
      ∙ ap₂ (λ s t. unless (branches_misfit (sort ys c) s t || differ s t) (given (sort ys c) (given t s))) (sort_alike xs ys h a) (sort_alike xs ys h b)

  sorts_alike : (xs ys : List Thing) → ReadsAlike xs ys → (es : Trees) → sorts xs es ≡ sorts ys es
  sorts_alike xs ys h no_tree = refl
  sorts_alike xs ys h (one_more e more) = ap₂ (λ s ss. s ∷ ss) (sort_alike xs ys h e) (sorts_alike xs ys h more)

pub appended : {bs cs ds es : List TypeFault} → bs ≡ cs → ds ≡ es → bs ++ ds ≡ cs ++ es
appended p q = ap₂ (λ a b. a ++ b) p q

mutual
  pub tree_alike : (xs ys : List Thing) → ReadsAlike xs ys → (e : Tree) → tree_faults xs e ≡ tree_faults ys e
  tree_alike xs ys h (number l) = refl
  tree_alike xs ys h (truth b at) = refl
  tree_alike xs ys h (named first field) = ap reading_faults (h first field)
  tree_alike xs ys h (binary op a b at) =
      appended (tree_alike xs ys h a) (appended (tree_alike xs ys h b)
      (ap₂ (λ s t. misfits (kinds_misfit op s t) (scales_misfit op s t) at) (sort_alike xs ys h a) (sort_alike xs ys h b)))
  tree_alike xs ys h (rest a by at) =
      appended (tree_alike xs ys h a) (ap (λ s. misfits (is_truthful s) (differ s (Scaled by.scale)) at ++ when (is_zero by) by.at KindDiffers)
      (sort_alike xs ys h a))
  tree_alike xs ys h (negated a at) = appended (tree_alike xs ys h a) (ap (λ s. when (is_truthful s) at KindDiffers) (sort_alike xs ys h a))
  tree_alike xs ys h (denied a at) = appended (tree_alike xs ys h a) (ap (λ s. when (is_scaled s) at KindDiffers) (sort_alike xs ys h a))
  tree_alike xs ys h (called f parts at) =
      appended (parts_alike xs ys h parts) (ap (λ ss. misfits (list_any is_truthful ss) (some_differ ss) at) (sorts_alike xs ys h parts))
  tree_alike xs ys h (rescaled a to at) =
      appended (tree_alike xs ys h a) (ap (λ s. when (is_truthful s) at KindDiffers ++ when (is_no_scale to) to.at ScaleDiffers) (sort_alike xs ys h a))
  tree_alike xs ys h (chosen c a b at) =
      appended (tree_alike xs ys h c)
      (appended (tree_alike xs ys h a)
      (appended (tree_alike xs ys h b)
      (ap (λ r. misfits (branches_misfit r (sort xs a) (sort xs b)) (differ (sort xs a) (sort xs b)) at) (sort_alike xs ys h c)
      ∙ ap₂ (λ s t. misfits (branches_misfit (sort ys c) s t) (differ s t) at) (sort_alike xs ys h a) (sort_alike xs ys h b))))

  parts_alike : (xs ys : List Thing) → ReadsAlike xs ys → (es : Trees) → parts_faults xs es ≡ parts_faults ys es
  parts_alike xs ys h no_tree = refl
  parts_alike xs ys h (one_more e more) = appended (tree_alike xs ys h e) (parts_alike xs ys h more)

mutual
  statement_alike : (s t : Scope) → ScopesAlike s t → (x : Statement) → statement_faults s x ≡ statement_faults t x
  statement_alike s t h (assigned target e) =
      appended (tree_alike s.read t.read h.read e) (ap₂ (λ r v. target_faults r v target.at) (h.local target None) (sort_alike s.read t.read h.read e))
  statement_alike s t h (published topic field e) =
      appended (tree_alike s.read t.read h.read e) (ap₂ (λ r v. target_faults r v topic.at) (h.written topic field) (sort_alike s.read t.read h.read e))
  statement_alike s t h (branched c taken other at) =
      appended (tree_alike s.read t.read h.read c)
      (appended (ap (λ v. when (is_scaled v) at KindDiffers) (sort_alike s.read t.read h.read c))
      (appended (block_alike s t h taken) (block_alike s t h other)))
  statement_alike s t h (repeated times body at) =
      ap (λ l. when (has_decimals times) times.at ScaleDiffers ++ (when (is_off times) times.at PeriodOutside ++ l)) (block_alike s t h body)

  pub block_alike : (s t : Scope) → ScopesAlike s t → (b : Block) → block_faults s b ≡ block_faults t b
  block_alike s t h no_statement = refl
  block_alike s t h (statement x more) = appended (statement_alike s t h x) (block_alike s t h more)
