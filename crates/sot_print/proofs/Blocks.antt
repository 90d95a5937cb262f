-- The bytes of statements with blocks.
use Rattle.std.proofs.Common.{◌≡◌, ℕ, ◌==◌, false, List, [], ◌∷◌, ◌++◌, length, codes, refl, ap, ◌∙◌, append_assoc}
use Rattle.std.specs.Global.{Box, Vec}
use Rattle.sot_text.specs.declared.token.Span.{Span}
use Rattle.sot_syntax_tree.specs.declared.tree.Lit.{Lit}
use Rattle.sot_syntax_tree.specs.declared.tree.Branch.{Branch}
use Rattle.sot_syntax_tree.specs.declared.tree.Stmt.{Stmt, If, Repeat}
use Rattle.sot_syntax_tree.specs.TreeViews.{tree_view, statement_view, block_view}
use Rattle.sot_syntax_tree.proofs.BlockRows.{branch_view, repeat_view}
use Rattle.sot_print.specs.declared.gap.Gap.TheVariants.{Space, Line}
use Rattle.sot_print.specs.Words.{Word, keyword, blanks, laid}
use Rattle.sot_print.specs.Leaves.{literal_words}
use Rattle.sot_print.specs.Expressions.{expression_words}
use Rattle.sot_print.specs.Statements.{braced_words, otherwise_words, statement_words, block_words}
use Rattle.sot_print.proofs.Laying.{laid-append}

pub otherwise_bytes : (block : List Stmt) (indent : ℕ) (inner : ℕ → List Word) → (length block == 0) ≡ false
    → laid (otherwise_words (block_view block) indent inner) ≡ blanks Space ++ (codes "else" ++ laid (braced_words indent inner))
otherwise_bytes [] indent inner some = absurd cc
otherwise_bytes (s ∷ block) indent inner some = refl

pub otherwise_written : (start word gap more out : List ℕ) → word ≡ start ++ (gap ++ more) → word ++ out ≡ start ++ (gap ++ (more ++ out))
otherwise_written start word gap more out e = ap (λ o. o ++ out) e ∙ regrouped
  where
    regrouped : (start ++ (gap ++ more)) ++ out ≡ start ++ (gap ++ (more ++ out))
    regrouped = simp append_assoc

-- the block of statements behind `if` and its condition, and those of `else`
pub branch_bytes : (b : Box Branch) (at : Span) (indent : ℕ)
    → laid (statement_words (statement_view (If b at)) indent)
    ≡ ((blanks (Line indent) ++ (codes "if" ++ laid (expression_words (tree_view b.value.cond) Space)))
    ++ laid (braced_words indent (block_words (block_view b.value.yes.items))))
    ++ laid (otherwise_words (block_view b.value.no.items) indent (block_words (block_view b.value.no.items)))
branch_bytes b at indent =
    let head : List Word = keyword (Line indent) (codes "if") ∷ expression_words (tree_view b.value.cond) Space in
    let yes_ : List Word = braced_words indent (block_words (block_view b.value.yes.items)) in
    let no_ : List Word = otherwise_words (block_view b.value.no.items) indent (block_words (block_view b.value.no.items)) in
    ap (λ s. laid (statement_words s indent)) (branch_view b at) ∙ laid-append (head ++ yes_) no_ ∙ ap (λ bytes. bytes ++ laid no_) (laid-append head yes_)

pub branch_written : (start word cond yes_ gap text expr block other : List ℕ) → word ≡ start ++ (gap ++ text) → cond ≡ word ++ expr → yes_ ≡ cond ++ block
    → yes_ ++ other ≡ start ++ (((gap ++ (text ++ expr)) ++ block) ++ other)
branch_written start word cond yes_ gap text expr block other a b c =
    ap (λ o. o ++ other) (c ∙ ap (λ o. o ++ block) (b ∙ ap (λ o. o ++ expr) a)) ∙ regrouped
  where
    regrouped : (((start ++ (gap ++ text)) ++ expr) ++ block) ++ other ≡ start ++ (((gap ++ (text ++ expr)) ++ block) ++ other)
    regrouped = simp append_assoc

pub repeat_bytes : (n : Lit) (v : Vec Stmt) (at : Span) (indent : ℕ)
    → laid (statement_words (statement_view (Repeat n v at)) indent)
    ≡ (blanks (Line indent) ++ (codes "repeat" ++ laid (literal_words Space n))) ++ laid (braced_words indent (block_words (block_view v.items)))
repeat_bytes n v at indent =
    ap (λ s. laid (statement_words s indent)) (repeat_view n v at)
    ∙ laid-append (keyword (Line indent) (codes "repeat") ∷ literal_words Space n) (braced_words indent (block_words (block_view v.items)))

pub repeat_written : (start word times gap text digits block : List ℕ) → word ≡ start ++ (gap ++ text) → times ≡ word ++ digits
    → times ++ block ≡ start ++ ((gap ++ (text ++ digits)) ++ block)
repeat_written start word times gap text digits block a b =
    ap (λ o. o ++ block) (b ∙ ap (λ o. o ++ digits) a) ∙ regrouped
  where
    regrouped : ((start ++ (gap ++ text)) ++ digits) ++ block ≡ start ++ ((gap ++ (text ++ digits)) ++ block)
    regrouped = simp append_assoc
