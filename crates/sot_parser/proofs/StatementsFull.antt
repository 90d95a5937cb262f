-- Statements: what is of the grammar is read.
use Rattle.std.proofs.Common.{◌≡◌, ℕ, zero, suc, ◌≤◌, ◌<◌, ◌==◌, ◌||◌, not, codes, length, List, [], ◌∷◌, Bool, true, false, Option, None, Some, Ok, refl, sym}
use Rattle.std.proofs.Common.{ap, subst, ◌∙◌, arith}
use Rattle.std.proofs.lemmas.Bool.Decides.{nat_tests}
use Rattle.std.proofs.lemmas.Bool.{or_from}
use Rattle.sot_text.specs.Reading.{Lexeme}
use Rattle.sot_syntax_tree.specs.Trees.{Statement, Block, statement}
use Rattle.sot_expression.specs.Lexemes.{begins, is_sign, is_keyword}
use Rattle.sot_expression.specs.Phrases as phrases
use Rattle.sot_parser.specs.ListReaders.{repeated, all_at}
use Rattle.sot_parser.specs.Pieces.{Sign, maybe}
use Rattle.sot_parser.specs.Statements.{ExpressionForm, spelled_expression, expression_of, expression_levels, AssignForm, spelled_assign, DotForm, spelled_dot}
use Rattle.sot_parser.specs.Statements.{dot_of, PublishForm, spelled_publish, StatementForm, an_assign, a_publish, an_if, a_repeat, BlockForm, braces, ElseForm}
use Rattle.sot_parser.specs.Statements.{no_else, with_else, StatementsForm, no_more, one_more, spelled_statement, spelled_block, spelled_else}
use Rattle.sot_parser.specs.Statements.{spelled_statements, statement_of, block_of, else_of, statements_of, statement_levels, block_levels, else_levels}
use Rattle.sot_parser.specs.Statements.{statements_levels}
use Rattle.sot_expression.specs.ExpressionReaders.{tree_at}
use Rattle.sot_parser.specs.StatementReaders.{assign_at, field_at, dot_at, publish_at, plain_at, otherwise_at, else_at, branch_at, loop_at, nested_at}
use Rattle.sot_parser.specs.StatementReaders.{begins_nested, block_from, goes_on, block_at, statement_at}
use Rattle.sot_expression.proofs.PhraseLaws.{expression_full}
use Rattle.sot_expression.proofs.FirstTokens.{some_levels}
use Rattle.sot_parser.proofs.Shorter.{statement_short}
use Rattle.sot_parser.proofs.StatementSteps.{plain_step}
use Rattle.sot_expression.proofs.ReadSteps.{give}
use Rattle.sot_parser.proofs.FullSteps.{yes_by, no_by, keyword_full, sign_full, name_full, number_full, keyword_test, sign_test, keyword_other, sign_other}
use Rattle.sot_parser.proofs.FullSteps.{keyword_no_sign, sign_no_keyword, name_no_sign, name_no_keyword, sign_token}

-- no expression goes on with a semicolon or a brace
pub semicolon_stops : (s : Sign (codes ";")) (us : List Lexeme) → phrases.Stops (s.token ∷ us)
semicolon_stops s us = subst (λ (t : Lexeme). phrases.Stops (t ∷ us)) (sym (sign_token s)) (refl, refl)

block_stops : (b : BlockForm) (us : List Lexeme) → phrases.Stops (spelled_block b us)
block_stops (braces opening body closing) us =
    subst (λ (t : Lexeme). phrases.Stops (t ∷ spelled_statements body (closing.token ∷ us))) (sym (sign_token opening)) (refl, refl)

pub tree_full : (room : ℕ) (e : ExpressionForm) (us : List Lexeme) → expression_levels e ≤ room → phrases.Stops us
    → tree_at room (spelled_expression e us) ≡ Ok (expression_of e, us)
unfolding tree_at
tree_full room e us fits stops = give (expression_full room e.phrase us e.is fits stops) _ _ refl

assign_full : (room : ℕ) (a : AssignForm) (us : List Lexeme) → expression_levels a.value ≤ room
    → plain_at (tree_at room) (spelled_assign a us) ≡ Ok (statement_of (an_assign a), us)
unfolding plain_at assign_at
assign_full room a us fits =
    no_by (name_no_keyword (codes "publish") a.target) _
    (give (name_full a.target _) _ _ (give (sign_full a.becomes _) _ _
    (give (tree_full room a.value _ fits (semicolon_stops a.semicolon us)) _ _ (give (sign_full a.semicolon us) _ _ refl))))

dot_full : (d : Option DotForm) (us : List Lexeme) → begins (is_sign (codes ".")) us ≡ false → dot_at (maybe spelled_dot d us) ≡ Ok (dot_of d, us)
unfolding dot_at field_at
dot_full None us off = no_by off _ refl
dot_full (Some d) us off = yes_by (sign_test d.dot) _ (give (sign_full d.dot _) _ _ (give (name_full d.name us) _ _ refl))

publish_full : (room : ℕ) (p : PublishForm) (us : List Lexeme) → expression_levels p.value ≤ room
    → plain_at (tree_at room) (spelled_publish p us) ≡ Ok (statement_of (a_publish p), us)
unfolding plain_at publish_at
publish_full room p us fits =
    yes_by (keyword_test p.word) _
    (give (keyword_full p.word _) _ _ (give (name_full p.topic _) _ _
    (give (dot_full p.field _ (sign_other (codes ".") p.equals refl)) _ _ (give (sign_full p.equals _) _ _
    (give (tree_full room p.value _ fits (semicolon_stops p.semicolon us)) _ _ (give (sign_full p.semicolon us) _ _ refl))))))

-- the statements of a list
abbrev list_of : StatementsForm → List Statement
list_of no_more = []
list_of (one_more s rest) = statement_of s ∷ list_of rest

list_means : (ss : StatementsForm) → block_from (list_of ss) ≡ statements_of ss
list_means no_more = refl
list_means (one_more s rest) = ap (λ b. statement (statement_of s) b) (list_means rest)

-- what a statement begins with
statement_starts : (s : StatementForm) (us : List Lexeme) → goes_on (spelled_statement s us) ≡ true
statement_starts (an_assign a) us = ap not (name_no_sign (codes "}") a.target)
statement_starts (a_publish p) us = ap not (keyword_no_sign (codes "}") p.word)
statement_starts (an_if word cond_ first second) us = ap not (keyword_no_sign (codes "}") word)
statement_starts (a_repeat word times body) us = ap not (keyword_no_sign (codes "}") word)

no_else_starts : (s : StatementForm) (us : List Lexeme) → begins (is_keyword (codes "else")) (spelled_statement s us) ≡ false
no_else_starts (an_assign a) us = name_no_keyword (codes "else") a.target
no_else_starts (a_publish p) us = keyword_other (codes "else") p.word refl
no_else_starts (an_if word cond_ first second) us = keyword_other (codes "else") word refl
no_else_starts (a_repeat word times body) us = keyword_other (codes "else") word refl

no_else_follows : (ss : StatementsForm) (closing : Sign (codes "}")) (us : List Lexeme)
    → begins (is_keyword (codes "else")) (spelled_statements ss (closing.token ∷ us)) ≡ false
no_else_follows no_more closing us = sign_no_keyword (codes "else") closing
no_else_follows (one_more s rest) closing us = no_else_starts s (spelled_statements rest (closing.token ∷ us))

or_second : (b c : Bool) → b ≡ false → c ≡ true → (b || c) ≡ true
or_second true c e f = refl
or_second false c e f = f

plain_all : (room : ℕ) (e : ExpressionForm) (s : Statement) (ts us : List Lexeme) → expression_levels e ≤ room → begins_nested ts ≡ false
    → plain_at (tree_at room) ts ≡ Ok (s, us) → statement_at room ts ≡ Ok (s, us)
plain_all room e s ts us fits off read = plain_step room ts (omega (arith, fits, some_levels e.phrase)) off ∙ read

some_room : (q : ℕ) → (suc q == 0) ≡ false
some_room q = grind (arith, nat_tests)

mutual
  unfolding statement_at nested_at branch_at loop_at block_at all_at else_at otherwise_at repeated

  pub statement_full : (s : StatementForm) (room : ℕ) (us : List Lexeme) → statement_levels s ≤ room → begins (is_keyword (codes "else")) us ≡ false
      → statement_at room (spelled_statement s us) ≡ Ok (statement_of s, us)
  statement_full (an_assign a) room us fits off =
      plain_all room a.value _ _ us fits (or_from _ _ (name_no_keyword (codes "if") a.target) (name_no_keyword (codes "repeat") a.target))
      (assign_full room a us fits)
  statement_full (a_publish p) room us fits off =
      plain_all room p.value _ _ us fits (or_from _ _ (keyword_other (codes "if") p.word refl) (keyword_other (codes "repeat") p.word refl))
      (publish_full room p us fits)
  statement_full (an_if word cond_ first second) zero us fits off = absurd (omega (arith, fits))
  statement_full (an_if word cond_ first second) (suc zero) us fits off = absurd (omega (arith, fits, some_levels cond_.phrase))
  statement_full (an_if word cond_ first second) (suc (suc q)) us fits off =
      let r : ℕ = suc q in
      yes_by (ap (λ b. b || begins (is_keyword (codes "repeat")) (spelled_statement (an_if word cond_ first second) us)) (keyword_test word)) _
      (yes_by (keyword_test word) _ (no_by (some_room q) _
      (give (keyword_full word _) _ _ (give (tree_full r cond_ _ (omega (arith, fits)) (block_stops first _)) _ _
      (give (block_full first r _ (omega (arith, fits))) _ _ (give (else_full second r us (omega (arith, fits)) off) _ _ refl))))))
  statement_full (a_repeat word times body) zero us fits off = absurd (omega (arith, fits))
  statement_full (a_repeat word times body) (suc r) us fits off =
      yes_by (or_second _ _ (keyword_other (codes "if") word refl) (keyword_test word)) _ (no_by (keyword_other (codes "if") word refl) _
      (give (keyword_full word _) _ _ (give (number_full times _) _ _ (give (block_full body r us (omega (arith, fits))) _ _ refl))))

  pub block_full : (b : BlockForm) (room : ℕ) (us : List Lexeme) → block_levels b ≤ room
      → block_at (statement_at room) (spelled_block b us) ≡ Ok (block_of b, us)
  block_full (braces opening body closing) room us fits =
      give (sign_full opening _) _ _ (give (statements_full body room (suc (length (spelled_statements body (closing.token ∷ us)))) closing us fits
      (omega arith)) _ _
      (give (sign_full closing us) _ _ (ap (λ (b : Block). Ok (b, us)) (list_means body))))

  else_full : (b : ElseForm) (room : ℕ) (us : List Lexeme) → else_levels b ≤ room → begins (is_keyword (codes "else")) us ≡ false
      → else_at (block_at (statement_at room)) (spelled_else b us) ≡ Ok (else_of b, us)
  else_full no_else room us fits off = no_by off _ refl
  else_full (with_else word body) room us fits off = yes_by (keyword_test word) _ (give (keyword_full word _) _ _ (block_full body room us fits))

  statements_full : (ss : StatementsForm) (room n : ℕ) (closing : Sign (codes "}")) (us : List Lexeme) → statements_levels ss ≤ room
      → length (spelled_statements ss (closing.token ∷ us)) < n
      → repeated goes_on (statement_at room) n (spelled_statements ss (closing.token ∷ us)) ≡ Ok (list_of ss, closing.token ∷ us)
  statements_full ss room zero closing us fits enough = absurd (omega (arith, enough))
  statements_full no_more room (suc n) closing us fits enough = no_by (ap not (sign_test closing)) _ refl
  statements_full (one_more s rest) room (suc n) closing us fits enough =
      let vs : List Lexeme = spelled_statements rest (closing.token ∷ us) in
      let one = statement_full s room vs (omega (arith, fits)) (no_else_follows rest closing us) in
      let less : length vs < n = omega (arith, enough, statement_short room (spelled_statement s vs) (statement_of s, vs) one) in
      yes_by (statement_starts s vs) _ (give one _ _ (give (statements_full rest room n closing us (omega (arith, fits)) less) _ _ refl))
