-- The words of statements are tokens that may follow one another.
use Rattle.std.proofs.Common.{ℕ, ◌+◌, List, [], ◌∷◌, ◌++◌, codes, refl}
use Rattle.sot_syntax_tree.specs.Trees.{Statement, Block, assigned, published, branched, repeated, no_statement, statement}
use Rattle.sot_print.specs.declared.gap.Gap.TheVariants.{Touching, Space, Line}
use Rattle.sot_print.specs.Words.{Word, keyword, sign, name}
use Rattle.sot_print.specs.Leaves.{literal_words, reference_words}
use Rattle.sot_print.specs.Expressions.{expression_words}
use Rattle.sot_print.specs.Statements.{semicolon, braced_words, otherwise_words, statement_words, block_words}
use Rattle.sot_syntax_tree.specs.Formed.{IsStatement, IsBlock}
use Rattle.sot_print.proofs.Sits.{IsTok, SitsAnywhere, spaced, ended, then_word, joined, sign_token, closes}
use Rattle.sot_print.proofs.LeafSits.{literal_sits, reference_sits}
use Rattle.sot_print.proofs.ExpressionSits.{expression_sits}

pub semicolon_sits : SitsAnywhere semicolon
semicolon_sits = closes (codes ";") [] refl refl (ended (sign Touching (codes ";")) (sign_token (codes ";") refl))

pub braced_sits : (indent : ℕ) (inner : ℕ → List Word) → ((deeper : ℕ) → SitsAnywhere (inner deeper)) → SitsAnywhere (braced_words indent inner)
braced_sits indent inner sits = λ v tok.
    let brace : IsTok (sign Space (codes "{")) = sign_token (codes "{") refl in
    let end : IsTok (sign (Line indent) (codes "}")) = sign_token (codes "}") refl in
    joined (sign Space (codes "{") ∷ inner (indent + 2)) (sign (Line indent) (codes "}") ∷ [])
    (then_word brace tt (sits (indent + 2) (sign Space (codes "{")) brace))
    (λ u is. then_word end tt (ended (sign (Line indent) (codes "}")) end))

otherwise_sits : (block : Block) (indent : ℕ) (inner : ℕ → List Word) → ((deeper : ℕ) → SitsAnywhere (inner deeper))
    → SitsAnywhere (otherwise_words block indent inner)
otherwise_sits no_statement indent inner sits = ended
otherwise_sits (statement s rest_) indent inner sits = λ v tok. then_word refl tt (braced_sits indent inner sits (keyword Space (codes "else")) refl)

mutual
  pub statement_sits : (s : Statement) → IsStatement s → (indent : ℕ) → SitsAnywhere (statement_words s indent)
  statement_sits (assigned target value) is indent = λ v tok.
      joined (name (Line indent) target.name ∷ sign Space (codes ":=") ∷ expression_words value Space) semicolon
      (then_word is.0 tt (then_word (sign_token (codes ":=") refl) tt
      (expression_sits value is.1 (sign Space (codes ":=")) Space (spaced (sign Space (codes ":="))))))
      semicolon_sits
  statement_sits (published topic field value) is indent = λ v tok.
      let head : List Word = keyword (Line indent) (codes "publish") ∷ reference_words Space topic field in
      let set : List Word = sign Space (codes "=") ∷ expression_words value Space in
      joined (head ++ set) semicolon
      (joined head set
      (then_word refl tt (reference_sits topic field (keyword (Line indent) (codes "publish")) Space is.0 is.1
      (spaced (keyword (Line indent) (codes "publish")))))
      (λ u tok. then_word (sign_token (codes "=") refl) tt (expression_sits value is.2 (sign Space (codes "=")) Space (spaced (sign Space (codes "="))))))
      semicolon_sits
  statement_sits (branched cond_ yes_ no_ at) is indent = λ v tok.
      let head : List Word = keyword (Line indent) (codes "if") ∷ expression_words cond_ Space in
      joined (head ++ braced_words indent (block_words yes_)) (otherwise_words no_ indent (block_words no_))
      (joined head (braced_words indent (block_words yes_))
      (then_word refl tt (expression_sits cond_ is.0 (keyword (Line indent) (codes "if")) Space (spaced (keyword (Line indent) (codes "if")))))
      (braced_sits indent (block_words yes_) (block_sits yes_ is.1)))
      (otherwise_sits no_ indent (block_words no_) (block_sits no_ is.2))
  statement_sits (repeated times body at) is indent = λ v tok.
      joined (keyword (Line indent) (codes "repeat") ∷ literal_words Space times) (braced_words indent (block_words body))
      (then_word refl tt (literal_sits times (keyword (Line indent) (codes "repeat")) Space is.0.0 (spaced (keyword (Line indent) (codes "repeat")))))
      (braced_sits indent (block_words body) (block_sits body is.1))

  pub block_sits : (b : Block) → IsBlock b → (indent : ℕ) → SitsAnywhere (block_words b indent)
  block_sits no_statement is indent = ended
  block_sits (statement s rest_) is indent = λ v tok.
      joined (statement_words s indent) (block_words rest_ indent) (statement_sits s is.0 indent v tok) (block_sits rest_ is.1 indent)
