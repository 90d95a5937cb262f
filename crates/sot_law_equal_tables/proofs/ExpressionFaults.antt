-- The faults of expressions and statements do not depend on places.
use Rattle.std.proofs.Common.{◌≡◌, ℕ, zero, suc, List, [], ◌∷◌, ◌++◌, map, None, refl, ap, ap₂, ◌∙◌}
use Rattle.std.specs.Prelude.{nat_abs}
use Rattle.std.specs.List.{list_any}
use Rattle.sot_text.specs.declared.token.Span.{Span}
use Rattle.sot_syntax_tree.specs.Trees.{Tree, Trees, number, truth, named, binary, rest, negated, denied, called, rescaled, chosen, no_tree, one_more, Statement}
use Rattle.sot_syntax_tree.specs.Trees.{Block, assigned, published, branched, repeated, no_statement, statement}
use Rattle.sot_rules.specs.declared.fault.TypeKind.TheVariants.{ScaleDiffers, KindDiffers, PeriodOutside}
use Rattle.sot_rules.specs.declared.expressions.sort.Sort.TheVariants.{Scaled}
use Rattle.sot_rules.specs.Sorts.{is_truthful, is_scaled, differ, kinds_misfit, scales_misfit, some_differ, branches_misfit}
use Rattle.sot_rules.specs.Names.{Thing, Scope, reading}
use Rattle.sot_rules.specs.TreeSorts.{sort}
use Rattle.sot_rules.specs.Tests.{copies, unrolled, block_unrolled}
use Rattle.sot_rules.specs.Faults.{tree_faults, parts_faults, statement_faults, block_faults}
use Rattle.sot_law_print_parse.specs.Unplaced.{nowhere, unplaced_tree, unplaced_trees, unplaced_statement, unplaced_block}
use Rattle.sot_law_equal_tables.proofs.Names.{reading_same, sort_same, sorts_same}
use Rattle.sot_law_equal_tables.proofs.FaultLists.{AreBare, none, also, if_same, misfits_same, reading_bare, target_bare}

mutual
  pub tree_bare : (names : List Thing) (e : Tree) → AreBare (tree_faults names (unplaced_tree e)) (tree_faults names e)
  tree_bare names (number l) = none
  tree_bare names (truth b at) = none
  tree_bare names (named first field) = reading_bare _ (reading names first field) (reading_same names first field)
  tree_bare names (binary op a b at) =
      also (tree_bare names a) (also (tree_bare names b)
      (misfits_same at (ap₂ (kinds_misfit op) (sort_same names a) (sort_same names b)) (ap₂ (scales_misfit op) (sort_same names a) (sort_same names b))))
  tree_bare names (rest a by at) =
      also (tree_bare names a)
      (also (misfits_same at (ap is_truthful (sort_same names a)) (ap (λ s. differ s (Scaled by.scale)) (sort_same names a))) (if_same by.at KindDiffers refl))
  tree_bare names (negated a at) = also (tree_bare names a) (if_same at KindDiffers (ap is_truthful (sort_same names a)))
  tree_bare names (denied a at) = also (tree_bare names a) (if_same at KindDiffers (ap is_scaled (sort_same names a)))
  tree_bare names (called f parts at) =
      also (parts_bare names parts) (misfits_same at (ap (list_any is_truthful) (sorts_same names parts)) (ap some_differ (sorts_same names parts)))
  tree_bare names (rescaled a to at) =
      also (tree_bare names a) (also (if_same at KindDiffers (ap is_truthful (sort_same names a))) (if_same to.at ScaleDiffers refl))
  tree_bare names (chosen c a b at) =
      also (tree_bare names c) (also (tree_bare names a) (also (tree_bare names b)
      (misfits_same at (λ j. branches_misfit (sort_same names c j) (sort_same names a j) (sort_same names b j))
      (ap₂ differ (sort_same names a) (sort_same names b)))))

  parts_bare : (names : List Thing) (es : Trees) → AreBare (parts_faults names (unplaced_trees es)) (parts_faults names es)
  parts_bare names no_tree = none
  parts_bare names (one_more e more) = also (tree_bare names e) (parts_bare names more)

mutual
  statement_bare : (s : Scope) (a : Statement) → AreBare (statement_faults s (unplaced_statement a)) (statement_faults s a)
  statement_bare s (assigned target e) =
      also (tree_bare s.read e) (target_bare _ (reading s.local target None) _ (sort s.read e) nowhere target.at (reading_same s.local target None)
      (sort_same s.read e) refl)
  statement_bare s (published topic field e) =
      also (tree_bare s.read e) (target_bare _ (reading s.written topic field) _ (sort s.read e) nowhere topic.at (reading_same s.written topic field)
      (sort_same s.read e) refl)
  statement_bare s (branched c taken other at) =
      also (tree_bare s.read c) (also (if_same at KindDiffers (ap is_scaled (sort_same s.read c))) (also (block_bare s taken) (block_bare s other)))
  statement_bare s (repeated times body at) =
      also (if_same times.at ScaleDiffers refl) (also (if_same times.at PeriodOutside refl) (block_bare s body))

  pub block_bare : (s : Scope) (b : Block) → AreBare (block_faults s (unplaced_block b)) (block_faults s b)
  block_bare s no_statement = none
  block_bare s (statement a more) = also (statement_bare s a) (block_bare s more)

-- statements with loops unrolled
abbrev bare_places : List Span → List Span
bare_places xs = map (λ x. nowhere) xs

both_same : (xs ys : List Span) → bare_places xs ++ bare_places ys ≡ bare_places (xs ++ ys)
both_same [] ys = refl
both_same (x ∷ xs) ys = ap (λ zs. nowhere ∷ zs) (both_same xs ys)

copies_same : (n : ℕ) (xs : List Span) → copies n (bare_places xs) ≡ bare_places (copies n xs)
copies_same zero xs = refl
copies_same (suc n) xs = ap (λ ys. bare_places xs ++ ys) (copies_same n xs) ∙ both_same xs (copies n xs)

mutual
  unrolled_same : (a : Statement) → unrolled (unplaced_statement a) ≡ map (λ x. nowhere) (unrolled a)
  unrolled_same (assigned target e) = refl
  unrolled_same (published topic field e) = refl
  unrolled_same (branched c taken other at) =
      ap (λ ys. nowhere ∷ ys) (ap₂ (λ xs ys. xs ++ ys) (block_unrolled_same taken) (block_unrolled_same other)
      ∙ both_same (block_unrolled taken) (block_unrolled other))
  unrolled_same (repeated times body at) =
      ap (λ ys. nowhere ∷ ys) (ap (copies (nat_abs times.mantissa)) (block_unrolled_same body) ∙ copies_same (nat_abs times.mantissa) (block_unrolled body))

  pub block_unrolled_same : (b : Block) → block_unrolled (unplaced_block b) ≡ map (λ x. nowhere) (block_unrolled b)
  block_unrolled_same no_statement = refl
  block_unrolled_same (statement a more) = ap₂ (λ xs ys. xs ++ ys) (unrolled_same a) (block_unrolled_same more) ∙ both_same (unrolled a) (block_unrolled more)
