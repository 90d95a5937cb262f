-- The grammar of statements.
use Rattle.std.specs.Prelude.{ℕ, ◌+◌, max, List, ◌∷◌, codes, Option, None, Some}
use Rattle.sot_text.specs.Reading.{Lexeme}
use Rattle.sot_syntax_tree.specs.declared.tree.Ident.{Ident}
use Rattle.sot_syntax_tree.specs.Trees.{Tree, Statement, Block, assigned, published, branched}
use Rattle.sot_syntax_tree.specs.Trees.{repeated}
use Rattle.sot_syntax_tree.specs.Trees.{no_statement, statement}
use Rattle.sot_parser.specs.Pieces.{Keyword, Sign, Named, Digits, name_of, number_of, maybe}
use Rattle.sot_expression.specs.Phrases.{Phrase, IsPhrase}
use Rattle.sot_expression.specs.Phrases as phrases

-- expr
pub record ExpressionForm : Type 0 where
  pub phrase : Phrase
  pub is : IsPhrase phrase

abbrev pub spelled_expression : ExpressionForm → List Lexeme → List Lexeme
spelled_expression e more = phrases.spelled e.phrase more

abbrev pub expression_of : ExpressionForm → Tree
expression_of e = phrases.tree_of e.phrase

abbrev pub expression_levels : ExpressionForm → ℕ
expression_levels e = phrases.levels_of e.phrase

-- NAME ":=" expr ";"
pub record AssignForm : Type 0 where
  pub target : Named
  pub becomes : Sign (codes ":=")
  pub value : ExpressionForm
  pub semicolon : Sign (codes ";")

abbrev pub spelled_assign : AssignForm → List Lexeme → List Lexeme
spelled_assign a more =
    a.target.token ∷ a.becomes.token ∷ spelled_expression a.value (a.semicolon.token ∷ more)

-- "." NAME
pub record DotForm : Type 0 where
  pub dot : Sign (codes ".")
  pub name : Named

abbrev pub spelled_dot : DotForm → List Lexeme → List Lexeme
spelled_dot d more = d.dot.token ∷ d.name.token ∷ more

abbrev pub dot_of : Option DotForm → Option Ident
dot_of None = None
dot_of (Some d) = Some (name_of d.name)

-- "publish" NAME ["." NAME] "=" expr ";"
pub record PublishForm : Type 0 where
  pub word : Keyword (codes "publish")
  pub topic : Named
  pub field : Option DotForm
  pub equals : Sign (codes "=")
  pub value : ExpressionForm
  pub semicolon : Sign (codes ";")

abbrev pub spelled_publish : PublishForm → List Lexeme → List Lexeme
spelled_publish p more =
    p.word.token ∷ p.topic.token ∷ maybe spelled_dot p.field
    (p.equals.token ∷ spelled_expression p.value (p.semicolon.token ∷ more))

-- stmt = NAME ":=" expr ";" | "publish" NAME ["." NAME] "=" expr ";" | "if" expr block ["else"
-- block] | "repeat" NUMBER block block = "{" {stmt} "}"
mutual
  pub data StatementForm : Type 0 where
    an_assign : AssignForm → StatementForm
    a_publish : PublishForm → StatementForm
    an_if : Keyword (codes "if") → ExpressionForm → BlockForm → ElseForm → StatementForm
    a_repeat : Keyword (codes "repeat") → Digits → BlockForm → StatementForm

  pub data BlockForm : Type 0 where
    braces : Sign (codes "{") → StatementsForm → Sign (codes "}") → BlockForm

  pub data ElseForm : Type 0 where
    no_else : ElseForm
    with_else : Keyword (codes "else") → BlockForm → ElseForm

  pub data StatementsForm : Type 0 where
    no_more : StatementsForm
    one_more : StatementForm → StatementsForm → StatementsForm

abbrev mutual
  pub spelled_statement : StatementForm → List Lexeme → List Lexeme
  spelled_statement (an_assign a) more = spelled_assign a more
  spelled_statement (a_publish p) more = spelled_publish p more
  spelled_statement (an_if word cond yes_ no_) more =
      word.token ∷ spelled_expression cond (spelled_block yes_ (spelled_else no_ more))
  spelled_statement (a_repeat word times body) more =
      word.token ∷ times.token ∷ spelled_block body more

  pub spelled_block : BlockForm → List Lexeme → List Lexeme
  spelled_block (braces opening body closing) more =
      opening.token ∷ spelled_statements body (closing.token ∷ more)

  pub spelled_else : ElseForm → List Lexeme → List Lexeme
  spelled_else no_else more = more
  spelled_else (with_else word body) more = word.token ∷ spelled_block body more

  pub spelled_statements : StatementsForm → List Lexeme → List Lexeme
  spelled_statements no_more more = more
  spelled_statements (one_more s rest_) more = spelled_statement s (spelled_statements rest_ more)

-- an `else` that is left out is an empty block
abbrev mutual
  pub statement_of : StatementForm → Statement
  statement_of (an_assign a) = assigned (name_of a.target) (expression_of a.value)
  statement_of (a_publish p) = published (name_of p.topic) (dot_of p.field) (expression_of p.value)
  statement_of (an_if word cond yes_ no_) =
      branched (expression_of cond) (block_of yes_) (else_of no_) word.token.at
  statement_of (a_repeat word times body) = repeated (number_of times) (block_of body) word.token.at

  pub block_of : BlockForm → Block
  block_of (braces opening body closing) = statements_of body

  pub else_of : ElseForm → Block
  else_of no_else = no_statement
  else_of (with_else word body) = block_of body

  pub statements_of : StatementsForm → Block
  statements_of no_more = no_statement
  statements_of (one_more s rest_) = statement (statement_of s) (statements_of rest_)

-- how deep it nests: a plain statement as its expression, and an empty block not at all
abbrev mutual
  pub statement_levels : StatementForm → ℕ
  statement_levels (an_assign a) = expression_levels a.value
  statement_levels (a_publish p) = expression_levels p.value
  statement_levels (an_if word cond yes_ no_) =
      1 + max (expression_levels cond) (max (block_levels yes_) (else_levels no_))
  statement_levels (a_repeat word times body) = 1 + block_levels body

  pub block_levels : BlockForm → ℕ
  block_levels (braces opening body closing) = statements_levels body

  pub else_levels : ElseForm → ℕ
  else_levels no_else = 0
  else_levels (with_else word body) = block_levels body

  pub statements_levels : StatementsForm → ℕ
  statements_levels no_more = 0
  statements_levels (one_more s rest_) = max (statement_levels s) (statements_levels rest_)
