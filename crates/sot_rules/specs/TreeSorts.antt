-- The sort of an expression. One that has a fault inside it may be anything.
use Rattle.std.specs.Prelude.{nat_lt, ◌==◌, Bool, not, ◌||◌, List, [], ◌∷◌, nat_abs}
use Rattle.std.specs.List.{list_any}
use Rattle.sot_syntax_tree.specs.declared.tree.Lit.{Lit}
use Rattle.sot_syntax_tree.specs.Trees.{Tree, Trees, number, truth, named, binary, rest, negated}
use Rattle.sot_syntax_tree.specs.Trees.{denied}
use Rattle.sot_syntax_tree.specs.Trees.{called, rescaled, chosen, no_tree, one_more}
use Rattle.sot_rules.specs.declared.expressions.sort.Sort.{Sort}
use Rattle.sot_rules.specs.declared.expressions.sort.Sort.TheVariants.{Scaled, Truthful}
use Rattle.sot_rules.specs.Sorts.{is_truthful, is_scaled, differ, kinds_misfit, scales_misfit}
use Rattle.sot_rules.specs.Sorts.{operator_sort, unless, given, some_differ, call_sort}
use Rattle.sot_rules.specs.Sorts.{branches_misfit}
use Rattle.sot_rules.specs.Names.{Thing, reading, reading_sort}

-- a number that has decimals, where none may be
abbrev pub has_decimals : Lit → Bool
has_decimals l = not (l.scale == 0)

-- a written count of decimals is at most 6
abbrev pub is_no_scale : Lit → Bool
is_no_scale d = has_decimals d || nat_lt 6 (nat_abs d.mantissa)

abbrev pub is_zero : Lit → Bool
is_zero l = nat_abs l.mantissa == 0

abbrev mutual
  pub sort : List Thing → Tree → Sort
  sort names (number l) = Scaled l.scale
  sort names (truth b at) = Truthful
  sort names (named first field) = reading_sort (reading names first field)
  sort names (binary op a b at) =
      unless (kinds_misfit op (sort names a) (sort names b) || scales_misfit op (sort names a)
      (sort names b))
      (given (sort names a) (given (sort names b) (operator_sort op (sort names a) (sort names b))))
  sort names (rest a by at) =
      unless (is_truthful (sort names a) || (differ (sort names a) (Scaled by.scale) || is_zero by))
      (sort names a)
  sort names (negated a at) = unless (is_truthful (sort names a)) (sort names a)
  sort names (denied a at) = unless (is_scaled (sort names a)) (sort names a)
  sort names (called f parts at) =
      unless (list_any is_truthful (sorts names parts) || some_differ (sorts names parts))
      (call_sort (sorts names parts))
  sort names (rescaled a to at) =
      unless (is_truthful (sort names a) || is_no_scale to)
      (given (sort names a) (Scaled (nat_abs to.mantissa)))
  sort names (chosen c a b at) =
      unless (branches_misfit (sort names c) (sort names a) (sort names b) || differ (sort names a)
      (sort names b))
      (given (sort names c) (given (sort names b) (sort names a)))

  pub sorts : List Thing → Trees → List Sort
  sorts names no_tree = []
  sorts names (one_more e more) = sort names e ∷ sorts names more
