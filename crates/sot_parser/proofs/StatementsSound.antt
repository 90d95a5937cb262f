-- Statements: what is read is of the grammar.
use Rattle.std.proofs.Common.{◌≡◌, ℕ, zero, suc, ◌≤◌, ◌==◌, List, [], ◌∷◌, codes, map, Some, None, refl, sym, ap, ◌∙◌, arith}
use Rattle.sot_text.specs.Reading.{Lexeme}
use Rattle.sot_syntax_tree.specs.Trees.{Tree, Statement, Block, statement}
use Rattle.sot_expression.specs.Lexemes.{begins, is_sign, is_keyword}
use Rattle.sot_expression.specs.Readers.{Read}
use Rattle.sot_parser.specs.Pieces.{each, maybe}
use Rattle.sot_expression.specs.Phrases as phrases
use Rattle.sot_expression.specs.ExpressionReaders.{Part, expression_at, tree_at}
use Rattle.sot_parser.specs.Statements.{ExpressionForm, spelled_expression, expression_of, expression_levels, spelled_dot, dot_of, StatementForm, an_assign}
use Rattle.sot_parser.specs.Statements.{a_publish, an_if, a_repeat, BlockForm, braces, ElseForm, no_else, with_else, StatementsForm, no_more, one_more}
use Rattle.sot_parser.specs.Statements.{spelled_statement, spelled_block, spelled_else, spelled_statements, statement_of, block_of, else_of, statements_of}
use Rattle.sot_parser.specs.Statements.{statement_levels, block_levels, else_levels, statements_levels}
use Rattle.sot_parser.specs.StatementReaders.{assign_at, field_at, dot_at, publish_at, plain_at, otherwise_at, else_at, branch_at, loop_at, nested_at}
use Rattle.sot_parser.specs.StatementReaders.{begins_nested, begins_statement, block_from, goes_on, block_at, statement_with, statement_at}
use Rattle.sot_parser.proofs.SoundSteps.{Sound, Any, take, close, either, done, done_within, keyword_sound, sign_sound, name_sound, number_sound}
use Rattle.sot_expression.proofs.ReadSteps.{bind_ok, ok_is}
use Rattle.sot_parser.proofs.ListsSound.{Each, all_sound}
use Rattle.sot_expression.proofs.PhraseLaws.{expression_sound}

-- of at most so many levels
abbrev pub TreeFits : ℕ → ExpressionForm → Type 0
TreeFits room e = expression_levels e ≤ room

abbrev pub StatementFits : ℕ → StatementForm → Type 0
StatementFits room s = statement_levels s ≤ room

abbrev pub BlockFits : ℕ → BlockForm → Type 0
BlockFits room b = block_levels b ≤ room

pub tree_sound : (room : ℕ) → Sound spelled_expression expression_of (TreeFits room) (tree_at room)
unfolding tree_at
tree_sound room ts y e =
    let p = bind_ok (expression_at room ts) _ y e in
    let f = expression_sound room ts p.0.1 p.0.0 p.1 in
    let is = ok_is (p.0.0.tree, p.0.1) y p.2 in (
      record { phrase = f.0; is = f.1 },
      f.4,
      f.2 ∙ ap (λ (z : Tree × List Lexeme). phrases.spelled f.0 z.1) is,
      sym (ap (λ (z : Tree × List Lexeme). z.0) is)
          ∙ ap (λ (q : Part). q.tree) f.3,
    )

pub assign_sound : (room : ℕ) (expression : List Lexeme → Read Tree) → Sound spelled_expression expression_of (TreeFits room) expression
    → Sound spelled_statement statement_of (StatementFits room) (assign_at expression)
unfolding assign_at
assign_sound room expression sound =
    take name_sound _ _ (λ target _.
    take (sign_sound (codes ":=")) _ _ (λ becomes _.
    take sound _ _ (λ value fits.
    take (sign_sound (codes ";")) _ _ (λ semicolon _.
    done_within spelled_statement statement_of (StatementFits room)
    (an_assign (record { target = target; becomes = becomes; value = value; semicolon = semicolon })) fits))))

pub field_sound : Sound (maybe spelled_dot) dot_of Any field_at
unfolding field_at
field_sound =
    take (sign_sound (codes ".")) _ _ (λ dot _.
    take name_sound _ _ (λ name _.
    done (maybe spelled_dot) dot_of (Some (record { dot = dot; name = name }))))

pub dot_sound : Sound (maybe spelled_dot) dot_of Any dot_at
unfolding dot_at
dot_sound = either (begins (is_sign (codes "."))) _ _ _ field_sound (done (maybe spelled_dot) dot_of None)

pub publish_sound : (room : ℕ) (expression : List Lexeme → Read Tree) → Sound spelled_expression expression_of (TreeFits room) expression
    → Sound spelled_statement statement_of (StatementFits room) (publish_at expression)
unfolding publish_at
publish_sound room expression sound =
    take (keyword_sound (codes "publish")) _ _ (λ word _.
    take name_sound _ _ (λ topic _.
    take dot_sound _ _ (λ field _.
    take (sign_sound (codes "=")) _ _ (λ equals _.
    take sound _ _ (λ value fits.
    take (sign_sound (codes ";")) _ _ (λ semicolon _.
    done_within spelled_statement statement_of (StatementFits room)
    (a_publish (record { word = word; topic = topic; field = field; equals = equals; value = value; semicolon = semicolon })) fits))))))

pub plain_sound : (room : ℕ) (expression : List Lexeme → Read Tree) → Sound spelled_expression expression_of (TreeFits room) expression
    → Sound spelled_statement statement_of (StatementFits room) (plain_at expression)
unfolding plain_at
plain_sound room expression sound =
    either (begins (is_keyword (codes "publish"))) _ _ _ (publish_sound room expression sound) (assign_sound room expression sound)

-- an `else`, if any
abbrev pub ElseFits : ℕ → ElseForm → Type 0
ElseFits room b = else_levels b ≤ room

pub otherwise_sound : (room : ℕ) (block : List Lexeme → Read Block) → Sound spelled_block block_of (BlockFits room) block
    → Sound spelled_else else_of (ElseFits room) (otherwise_at block)
unfolding otherwise_at
otherwise_sound room block sound =
    take (keyword_sound (codes "else")) _ _ (λ word _.
    close sound _ (λ body fits us.
    (with_else word body, fits, refl, refl)))

pub else_sound : (room : ℕ) (block : List Lexeme → Read Block) → Sound spelled_block block_of (BlockFits room) block
    → Sound spelled_else else_of (ElseFits room) (else_at block)
unfolding else_at
else_sound room block sound =
    either (begins (is_keyword (codes "else"))) _ _ _ (otherwise_sound room block sound)
    (done_within spelled_else else_of (ElseFits room) no_else (omega arith))

pub branch_sound : (room : ℕ) (expression : List Lexeme → Read Tree) (block : List Lexeme → Read Block)
    → Sound spelled_expression expression_of (TreeFits room) expression → Sound spelled_block block_of (BlockFits room) block
    → Sound spelled_statement statement_of (StatementFits (suc room)) (branch_at expression block)
unfolding branch_at
branch_sound room expression block expressions blocks =
    take (keyword_sound (codes "if")) _ _ (λ word _.
    take expressions _ _ (λ cond_ a.
    take blocks _ _ (λ first b.
    take (else_sound room block blocks) _ _ (λ second c.
    done_within spelled_statement statement_of (StatementFits (suc room)) (an_if word cond_ first second) (omega (arith, a, b, c))))))

pub loop_sound : (room : ℕ) (block : List Lexeme → Read Block) → Sound spelled_block block_of (BlockFits room) block
    → Sound spelled_statement statement_of (StatementFits (suc room)) (loop_at block)
unfolding loop_at
loop_sound room block blocks =
    take (keyword_sound (codes "repeat")) _ _ (λ word _.
    take number_sound _ _ (λ times _.
    take blocks _ _ (λ body a.
    done_within spelled_statement statement_of (StatementFits (suc room)) (a_repeat word times body) (omega (arith, a)))))

pub nested_sound : (room : ℕ) (expression : List Lexeme → Read Tree) (block : List Lexeme → Read Block)
    → Sound spelled_expression expression_of (TreeFits room) expression → Sound spelled_block block_of (BlockFits room) block
    → Sound spelled_statement statement_of (StatementFits (suc room)) (nested_at room expression block)
unfolding nested_at
nested_sound room expression block expressions blocks =
    either (begins (is_keyword (codes "if"))) _ _ _ (either (λ _. room == 0) _ _ _ (λ ts y e. absurd cc)
    (branch_sound room expression block expressions blocks)) (loop_sound room block blocks)

-- the statements of a list
abbrev pub statements_from : List StatementForm → StatementsForm
statements_from [] = no_more
statements_from (s ∷ ss) = one_more s (statements_from ss)

pub statements_spelled : (ss : List StatementForm) (us : List Lexeme) → each spelled_statement ss us ≡ spelled_statements (statements_from ss) us
statements_spelled [] us = refl
statements_spelled (s ∷ ss) us = ap (spelled_statement s) (statements_spelled ss us)

statements_mean : (ss : List StatementForm) → block_from (map statement_of ss) ≡ statements_of (statements_from ss)
statements_mean [] = refl
statements_mean (s ∷ ss) = ap (λ b. statement (statement_of s) b) (statements_mean ss)

statements_fit : (room : ℕ) (ss : List StatementForm) → Each (StatementFits room) ss → statements_levels (statements_from ss) ≤ room
statements_fit room [] all = omega arith
statements_fit room (s ∷ ss) all = omega (arith, all.0, statements_fit room ss all.1)

pub block_sound : (room : ℕ) (item : List Lexeme → Read Statement) → Sound spelled_statement statement_of (StatementFits room) item
    → Sound spelled_block block_of (BlockFits room) (block_at item)
unfolding block_at
block_sound room item sound =
    take (sign_sound (codes "{")) _ _ (λ opening _.
    take (all_sound spelled_statement statement_of (StatementFits room) goes_on item sound) _ _ (λ body all.
    take (sign_sound (codes "}")) _ _ (λ closing _.
    λ us y e.
    let is = ok_is (block_from (map statement_of body), us) y e in
    let form : BlockForm = braces opening (statements_from body) closing in (
      form,
      statements_fit room body all,
      ap (λ vs. opening.token ∷ vs) (statements_spelled body (closing.token ∷ us)) ∙ ap (λ (z : Block × List Lexeme). spelled_block form z.1) is,
      sym (ap (λ (z : Block × List Lexeme). z.0) is) ∙ statements_mean body,
    ))))

pub with_sound : (room : ℕ) (nested : List Lexeme → Read Statement) → Sound spelled_statement statement_of (StatementFits room) nested
    → Sound spelled_statement statement_of (StatementFits room) (statement_with room nested)
with_sound room nested sound = either begins_nested _ _ _ sound (plain_sound room (tree_at room) (tree_sound room))

pub statement_sound : (room : ℕ) → Sound spelled_statement statement_of (StatementFits room) (statement_at room)
unfolding statement_at
statement_sound zero = either begins_statement _ _ _ (λ ts y e. absurd cc) (λ ts y e. absurd cc)
statement_sound (suc r) =
    with_sound (suc r) (nested_at r (tree_at r) (block_at (statement_at r)))
    (nested_sound r (tree_at r) (block_at (statement_at r)) (tree_sound r) (block_sound r (statement_at r) (statement_sound r)))

-- a block of at most so many levels
pub body_sound : (room : ℕ) → Sound spelled_block block_of (BlockFits room) (block_at (statement_at room))
body_sound room = block_sound room (statement_at room) (statement_sound room)
