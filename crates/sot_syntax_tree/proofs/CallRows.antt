-- The tree of a call, by the list of its parts.
use Rattle.std.proofs.Common.{◌≡◌, refl, ap, ◌∙◌}
use Rattle.std.specs.Global.{Box, Vec}
use Rattle.sot_text.specs.declared.token.Span.{Span}
use Rattle.sot_syntax_tree.specs.declared.operator.Func.{Func}
use Rattle.sot_syntax_tree.specs.declared.tree.Expr.{Expr, Call, Row_of-Expr, end_of-Expr, more_of-Expr, items-the_row-Expr, items_hidden-the_row-Expr-0}
use Rattle.sot_syntax_tree.specs.declared.tree.Expr.TheBlock.{hidden-the_row-Expr-0}
use Rattle.sot_syntax_tree.specs.Trees.{called, one_more}
use Rattle.sot_syntax_tree.specs.TreeViews.{tree_view, trees_view, parts_view}

row_items : {m : _} (es : Row_of-Expr m) → trees_view es ≡ parts_view (items-the_row-Expr _ es)
row_items end_of-Expr = refl
row_items (more_of-Expr e rest_) = ap (one_more (tree_view e)) (row_items rest_)

pub call_view : (f : Func) (v : Box (Vec Expr)) (at : Span) → tree_view (Call f v at) ≡ called f (parts_view v.value.items) at
call_view f v at = ap (λ ts. called f ts at) (row_items {m = _} (hidden-the_row-Expr-0 v.value) ∙ ap parts_view (items_hidden-the_row-Expr-0 v.value))
