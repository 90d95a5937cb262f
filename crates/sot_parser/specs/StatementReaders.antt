-- What tokens spell of a statement, read from the left.
use Rattle.std.specs.Prelude.{ℕ, zero, suc, List, [], ◌∷◌, Bool, not, ◌||◌, ◌==◌, codes, Option}
use Rattle.std.specs.Prelude.{None, Some, Ok, Err, if◌then◌else◌}
use Rattle.sot_text.specs.Reading.{Lexeme}
use Rattle.sot_syntax_tree.specs.declared.tree.Ident.{Ident}
use Rattle.sot_syntax_tree.specs.Trees.{Tree, Statement, Block, assigned, published, branched}
use Rattle.sot_syntax_tree.specs.Trees.{no_statement, statement}
use Rattle.sot_syntax_tree.specs.Trees as trees
use Rattle.sot_expression.specs.Lexemes.{begins, is_sign, is_keyword, is_name}
use Rattle.sot_expression.specs.Readers.{Read, stuck, deep, ◌>>=◌, expect, name_at, number_at}
use Rattle.sot_parser.specs.ListReaders.{all_at}
use Rattle.sot_expression.specs.ExpressionReaders.{tree_at}

unfoldable pub assign_at : (List Lexeme → Read Tree) → List Lexeme → Read Statement
assign_at expression ts = do
  target ← name_at ts
  becomes ← expect (is_sign (codes ":=")) target.1
  value ← expression becomes.1
  semicolon ← expect (is_sign (codes ";")) value.1
  Ok (assigned target.0 value.0, semicolon.1)

unfoldable pub field_at : List Lexeme → Read (Option Ident)
field_at ts = do
  dot ← expect (is_sign (codes ".")) ts
  name ← name_at dot.1
  Ok (Some name.0, name.1)

unfoldable pub dot_at : List Lexeme → Read (Option Ident)
dot_at ts = if begins (is_sign (codes ".")) ts then field_at ts else Ok (None, ts)

unfoldable pub publish_at : (List Lexeme → Read Tree) → List Lexeme → Read Statement
publish_at expression ts = do
  word ← expect (is_keyword (codes "publish")) ts
  topic ← name_at word.1
  field ← dot_at topic.1
  equals ← expect (is_sign (codes "=")) field.1
  value ← expression equals.1
  semicolon ← expect (is_sign (codes ";")) value.1
  Ok (published topic.0 field.0 value.0, semicolon.1)

-- a statement with none inside
unfoldable pub plain_at : (List Lexeme → Read Tree) → List Lexeme → Read Statement
plain_at expression ts =
    if begins (is_keyword (codes "publish")) ts then publish_at expression ts else assign_at
    expression ts

unfoldable pub otherwise_at : (List Lexeme → Read Block) → List Lexeme → Read Block
otherwise_at block ts = do
  word ← expect (is_keyword (codes "else")) ts
  block word.1

unfoldable pub else_at : (List Lexeme → Read Block) → List Lexeme → Read Block
else_at block ts =
    if begins (is_keyword (codes "else")) ts then otherwise_at block ts else Ok (no_statement, ts)

unfoldable pub branch_at : (List Lexeme → Read Tree) → (List Lexeme → Read Block) → List Lexeme
    → Read Statement
branch_at expression block ts = do
  word ← expect (is_keyword (codes "if")) ts
  cond ← expression word.1
  first ← block cond.1
  second ← else_at block first.1
  Ok (branched cond.0 first.0 second.0 word.0, second.1)

unfoldable pub loop_at : (List Lexeme → Read Block) → List Lexeme → Read Statement
loop_at block ts = do
  word ← expect (is_keyword (codes "repeat")) ts
  times ← number_at word.1
  body ← block times.1
  Ok (trees.repeated times.0 body.0 word.0, body.1)

-- a condition has some level
abbrev pub choice_at : ℕ → (List Lexeme → Read Tree) → (List Lexeme → Read Block) → List Lexeme
    → Read Statement
choice_at room expression block ts =
    if room == 0 then Err (deep, ts) else branch_at expression block ts

-- a statement with others inside, whose parts have at most so many levels
unfoldable pub nested_at : ℕ → (List Lexeme → Read Tree) → (List Lexeme → Read Block) → List Lexeme
    → Read Statement
nested_at room expression block ts =
    if begins (is_keyword (codes "if")) ts then choice_at room expression block ts else loop_at
    block ts

-- a statement with statements inside
abbrev pub begins_nested : List Lexeme → Bool
begins_nested ts = begins (is_keyword (codes "if")) ts || begins (is_keyword (codes "repeat")) ts

abbrev pub block_from : List Statement → Block
block_from [] = no_statement
block_from (s ∷ ss) = statement s (block_from ss)

abbrev pub goes_on : List Lexeme → Bool
goes_on ts = not (begins (is_sign (codes "}")) ts)

unfoldable pub block_at : (List Lexeme → Read Statement) → List Lexeme → Read Block
block_at item ts = do
  opening ← expect (is_sign (codes "{")) ts
  body ← all_at goes_on item opening.1
  closing ← expect (is_sign (codes "}")) body.1
  Ok (block_from body.0, closing.1)

abbrev pub statement_with : ℕ → (List Lexeme → Read Statement) → List Lexeme → Read Statement
statement_with room nested ts = if begins_nested ts then nested ts else plain_at (tree_at room) ts

abbrev pub begins_statement : List Lexeme → Bool
begins_statement ts =
    begins is_name ts || begins (is_keyword (codes "publish")) ts || begins_nested ts

-- a statement of at most so many levels; each has some
unfoldable pub statement_at : ℕ → List Lexeme → Read Statement
statement_at zero ts = if begins_statement ts then Err (deep, ts) else Err (stuck, ts)
statement_at (suc r) ts =
    statement_with (suc r) (nested_at r (tree_at r) (block_at (statement_at r))) ts
