-- The blocks of a statement, read as the lists of their `Vec`s.
use Rattle.std.proofs.Common.{◌≡◌, refl, ap, ap₂, ◌∙◌}
use Rattle.std.specs.Global.{Box, Vec}
use Rattle.sot_text.specs.declared.token.Span.{Span}
use Rattle.sot_syntax_tree.specs.declared.tree.Lit.{Lit}
use Rattle.sot_syntax_tree.specs.declared.tree.Branch.{Branch}
use Rattle.sot_syntax_tree.specs.declared.tree.Stmt.{Stmt, If, Repeat, Row_of-Stmt, end_of-Stmt, more_of-Stmt, items-the_row-Stmt, items_hidden-the_row-Stmt-0}
use Rattle.sot_syntax_tree.specs.declared.tree.Stmt.TheBlock.{hidden-the_row-Stmt-0}
use Rattle.sot_syntax_tree.specs.Trees.{branched, repeated, statement}
use Rattle.sot_syntax_tree.specs.TreeViews.{tree_view, statement_view, row_view, block_view}

row_items : {m : _} (ss : Row_of-Stmt m) → row_view ss ≡ block_view (items-the_row-Stmt _ ss)
row_items end_of-Stmt = refl
row_items (more_of-Stmt s rest_) = ap (statement (statement_view s)) (row_items rest_)

block_is : (v : Vec Stmt) → row_view (hidden-the_row-Stmt-0 v) ≡ block_view v.items
block_is v = row_items {m = _} (hidden-the_row-Stmt-0 v) ∙ ap block_view (items_hidden-the_row-Stmt-0 v)

pub branch_view : (b : Box Branch) (at : Span) → statement_view (If b at)
    ≡ branched (tree_view b.value.cond) (block_view b.value.yes.items) (block_view b.value.no.items) at
branch_view b at = (let p = block_is b.value.yes in let q = block_is b.value.no in ap₂ (λ x y. branched (tree_view b.value.cond) x y at) p q)

pub repeat_view : (n : Lit) (v : Vec Stmt) (at : Span) → statement_view (Repeat n v at) ≡ repeated n (block_view v.items) at
repeat_view n v at = ap (λ b. repeated n b at) (block_is v)
