use Rattle.std.proofs.Common.{◌≡◌, ◌==◌, ◌++◌, drop}
use Rattle.std.specs.String.{string_bytes}
use Rattle.sot_syntax_tree.specs.TreeViews.{tree_view}
use Rattle.sot_print.specs.declared.gap.Gap.TheVariants.{Touching}
use Rattle.sot_print.specs.Words.{laid}
use Rattle.sot_print.specs.Leaves.{items_from, listed}
use Rattle.sot_print.specs.Expressions.{expression_words}
use Rattle.sot_print.proofs.expression.+expression.Given as goal

-- what is written, and then what is left
abbrev pub invariant-push_parts-loop-place : goal.invariant-push_parts-loop-place
invariant-push_parts-loop-place l =
    string_bytes l.out ++ laid (items_from (λ gap e. expression_words (tree_view e) gap) Touching (l.place == 0) (drop l.place l.parts))
    ≡ string_bytes l.initial.out ++ laid (listed (λ gap e. expression_words (tree_view e) gap) Touching l.parts)
