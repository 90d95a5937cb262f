-- The words of statements. Each begins a line, with so many spaces before it.
use Rattle.std.specs.Prelude.{ℕ, ◌+◌, List, [], ◌∷◌, ◌++◌, codes}
use Rattle.sot_syntax_tree.specs.Trees.{Statement, Block, assigned, published, branched, repeated}
use Rattle.sot_syntax_tree.specs.Trees.{no_statement, statement as further_statement}
use Rattle.sot_print.specs.declared.gap.Gap.TheVariants.{Touching, Space, Line}
use Rattle.sot_print.specs.Words.{Word, keyword, sign, name}
use Rattle.sot_print.specs.Leaves.{literal_words, reference_words}
use Rattle.sot_print.specs.Expressions.{expression_words}

abbrev pub semicolon : List Word
semicolon = sign Touching (codes ";") ∷ []

-- clauses in braces, two spaces deeper; the closing brace is alone on its line
abbrev pub braced_words : ℕ → (ℕ → List Word) → List Word
braced_words indent inner =
    sign Space (codes "{") ∷ inner (indent + 2) ++ sign (Line indent) (codes "}") ∷ []

-- `else` and its block, unless that is empty
abbrev pub otherwise_words : Block → ℕ → (ℕ → List Word) → List Word
otherwise_words no_statement indent inner = []
otherwise_words (further_statement s rest_) indent inner =
    keyword Space (codes "else") ∷ braced_words indent inner

abbrev mutual
  pub statement_words : Statement → ℕ → List Word
  statement_words (assigned target value) indent =
      name (Line indent) target.name ∷ sign Space (codes ":=") ∷ expression_words value Space
      ++ semicolon
  statement_words (published topic field value) indent =
      keyword (Line indent) (codes "publish") ∷ reference_words Space topic field
      ++ sign Space (codes "=") ∷ expression_words value Space ++ semicolon
  statement_words (branched cond yes_ no_ at) indent =
      keyword (Line indent) (codes "if") ∷ expression_words cond Space
      ++ braced_words indent (block_words yes_) ++ otherwise_words no_ indent (block_words no_)
  statement_words (repeated times body at) indent =
      keyword (Line indent) (codes "repeat") ∷ literal_words Space times
      ++ braced_words indent (block_words body)

  pub block_words : Block → ℕ → List Word
  block_words no_statement indent = []
  block_words (further_statement s rest_) indent =
      statement_words s indent ++ block_words rest_ indent
