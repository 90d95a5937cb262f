-- A statement by what it begins with.
use Rattle.std.proofs.Common.{◌≡◌, ℕ, zero, suc, ◌-◌, ◌≤◌, cond, codes, map, List, [], ◌∷◌, true, false, Ok, Err, refl, ap, sym, ◌∙◌, arith}
use Rattle.std.specs.Global.{Box, Vec}
use Rattle.sot_text.specs.Reading.{Lexeme}
use Rattle.sot_text.specs.declared.token.Span.{Span}
use Rattle.sot_syntax_tree.specs.declared.tree.Lit.{Lit}
use Rattle.sot_syntax_tree.specs.declared.tree.Branch.{Branch}
use Rattle.sot_syntax_tree.specs.declared.tree.Stmt.{Stmt, If, Repeat}
use Rattle.sot_syntax_tree.specs.Trees.{Tree, Statement, Block, statement}
use Rattle.sot_syntax_tree.specs.TreeViews.{tree_view, statement_view, block_view}
use Rattle.sot_syntax_tree.proofs.BlockRows.{branch_view, repeat_view}
use Rattle.sot_expression.specs.Lexemes.{is_sign, is_keyword}
use Rattle.sot_expression.specs.Readers.{Read, stuck, deep, expect, number_at}
use Rattle.sot_parser.specs.ListReaders.{all_at}
use Rattle.sot_expression.specs.ExpressionReaders.{tree_at}
use Rattle.sot_parser.specs.StatementReaders.{plain_at, nested_at, begins_nested, begins_statement, block_at, block_from, branch_at, else_at, loop_at, goes_on}
use Rattle.sot_parser.specs.StatementReaders.{statement_at}
use Rattle.sot_expression.proofs.ReadSteps.{give}

pub plain_step : (room : ℕ) (ts : List Lexeme) → 1 ≤ room → begins_nested ts ≡ false → statement_at room ts ≡ plain_at (tree_at room) ts
unfolding statement_at
plain_step zero ts some e = absurd (omega (arith, some))
plain_step (suc r) ts some e = ap (λ b. cond b (nested_at r (tree_at r) (block_at (statement_at r)) ts) (plain_at (tree_at (suc r)) ts)) e

pub deep_step : (room : ℕ) (ts : List Lexeme) → room ≡ 0 → begins_statement ts ≡ true → statement_at room ts ≡ Err (deep, ts)
unfolding statement_at
deep_step zero ts none e = rw e refl
deep_step (suc r) ts none e = absurd (omega (arith, none))

pub stuck_step : (room : ℕ) (ts : List Lexeme) → room ≡ 0 → begins_statement ts ≡ false → statement_at room ts ≡ Err (stuck, ts)
unfolding statement_at
stuck_step zero ts none e = rw e refl
stuck_step (suc r) ts none e = absurd (omega (arith, none))

pub nested_step : (room : ℕ) (ts : List Lexeme) → 1 ≤ room → begins_nested ts ≡ true
    → statement_at room ts ≡ nested_at (room - 1) (tree_at (room - 1)) (block_at (statement_at (room - 1))) ts
unfolding statement_at
nested_step zero ts some e = absurd (omega (arith, some))
nested_step (suc r) ts some e =
    let less : suc r - 1 ≡ r = omega arith in
    ap (λ b. cond b (nested_at r (tree_at r) (block_at (statement_at r)) ts) (plain_at (tree_at (suc r)) ts)) e
    ∙ ap (λ m. nested_at m (tree_at m) (block_at (statement_at m)) ts) (sym less)

-- statements that are read, seen as a block
pub block_seen : (xs : List Stmt) → block_from (map statement_view xs) ≡ block_view xs
block_seen [] = refl
block_seen (x ∷ xs) = ap (λ b. statement (statement_view x) b) (block_seen xs)

pub block_read : (item : List Lexeme → Read Statement) (ts t1 t2 t3 : List Lexeme) (a b : Span) (xs : List Stmt)
    → expect (is_sign (codes "{")) ts ≡ Ok (a, t1) → all_at goes_on item t1 ≡ Ok (map statement_view xs, t2) → expect (is_sign (codes "}")) t2 ≡ Ok (b, t3)
    → block_at item ts ≡ Ok (block_view xs, t3)
unfolding block_at
block_read item ts t1 t2 t3 a b xs opening body closing =
    give opening _ _ (give body _ _ (give closing _ _ (ap (λ (c : Block). Ok (c, t3)) (block_seen xs))))

pub branch_read : (expression : List Lexeme → Read Tree) (block : List Lexeme → Read Block) (ts t1 t2 t3 t4 : List Lexeme) (at : Span) (b : Box Branch)
    → expect (is_keyword (codes "if")) ts ≡ Ok (at, t1) → expression t1 ≡ Ok (tree_view b.value.cond, t2) → block t2 ≡ Ok (block_view b.value.yes.items, t3)
    → else_at block t3 ≡ Ok (block_view b.value.no.items, t4)
    → branch_at expression block ts ≡ Ok (statement_view (If b at), t4)
unfolding branch_at
branch_read expression block ts t1 t2 t3 t4 at b word c first second =
    give word _ _ (give c _ _ (give first _ _ (give second _ _ (ap (λ (s : Statement). Ok (s, t4)) (sym (branch_view b at))))))

pub repeat_read : (block : List Lexeme → Read Block) (ts t1 t2 t3 : List Lexeme) (at : Span) (times : Lit) (u : Vec Stmt)
    → expect (is_keyword (codes "repeat")) ts ≡ Ok (at, t1) → number_at t1 ≡ Ok (times, t2) → block t2 ≡ Ok (block_view u.items, t3)
    → loop_at block ts ≡ Ok (statement_view (Repeat times u at), t3)
unfolding loop_at
repeat_read block ts t1 t2 t3 at times u word n body =
    give word _ _ (give n _ _ (give body _ _ (ap (λ (s : Statement). Ok (s, t3)) (sym (repeat_view times u at)))))
