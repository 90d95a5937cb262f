-- The words of expressions and statements are tidy.
use Rattle.std.proofs.Common.{ℕ, ◌+◌, Bool, true, false, List, [], ◌∷◌, ◌++◌, codes, refl}
use Rattle.sot_syntax_tree.specs.declared.operator.Op.{Op}
use Rattle.sot_syntax_tree.specs.declared.operator.Op.TheVariants.{Add, Sub, Mul, Div, Less, LessEqual, Greater, GreaterEqual, Equal, NotEqual, And, Or}
use Rattle.sot_syntax_tree.specs.declared.operator.Func.{Func}
use Rattle.sot_syntax_tree.specs.declared.operator.Func.TheVariants.{Min, Max, Abs, Clamp}
use Rattle.sot_syntax_tree.specs.Trees.{Tree, Trees, number, truth, named, binary, rest, negated, denied, called, rescaled, chosen, no_tree, one_more, Statement}
use Rattle.sot_syntax_tree.specs.Trees.{Block, assigned, published, branched, repeated, no_statement, statement}
use Rattle.sot_syntax_tree.specs.Formed.{IsTree, AreTrees, IsStatement, IsBlock}
use Rattle.sot_print.specs.declared.gap.Gap.{Gap}
use Rattle.sot_print.specs.declared.gap.Gap.TheVariants.{Touching, Space, Line}
use Rattle.sot_print.specs.Words.{Word, keyword, sign, name}
use Rattle.sot_print.specs.Leaves.{literal_words, reference_words}
use Rattle.sot_print.specs.Expressions.{operator, function_name, is_plain, grouped_words, operand_words, expression_words, parts_from}
use Rattle.sot_print.specs.Statements.{semicolon, braced_words, otherwise_words, statement_words, block_words}
use Rattle.sot_certified_text.proofs.Tidy.{Tidy, joined, then_word, choice}
use Rattle.sot_certified_text.proofs.TidyLeaves.{literal_tidy, name_tidy, reference_tidy, truth_tidy}

operator_tidy : (op : Op) (ws : List Word) → Tidy ws → Tidy (operator op ∷ ws)
operator_tidy Add ws tidy = tidy
operator_tidy Sub ws tidy = tidy
operator_tidy Mul ws tidy = tidy
operator_tidy Div ws tidy = tidy
operator_tidy Less ws tidy = tidy
operator_tidy LessEqual ws tidy = tidy
operator_tidy Greater ws tidy = tidy
operator_tidy GreaterEqual ws tidy = tidy
operator_tidy Equal ws tidy = tidy
operator_tidy NotEqual ws tidy = tidy
operator_tidy And ws tidy = tidy
operator_tidy Or ws tidy = tidy

function_tidy : (f : Func) (gap : Gap) (ws : List Word) → Tidy ws → Tidy (keyword gap (function_name f) ∷ ws)
function_tidy Min gap ws tidy = tidy
function_tidy Max gap ws tidy = tidy
function_tidy Abs gap ws tidy = tidy
function_tidy Clamp gap ws tidy = tidy

-- what an expression's words are, whatever gap stands before them
abbrev Inner : (Gap → List Word) → Type 0
Inner inner = (gap : Gap) → Tidy (inner gap)

grouped_tidy : (gap : Gap) (inner : Gap → List Word) → Inner inner → Tidy (grouped_words gap inner)
grouped_tidy gap inner tidy = joined (sign gap (codes "(") ∷ inner Touching) (sign Touching (codes ")") ∷ []) (tidy Touching) refl

operand_tidy : (e : Tree) (gap : Gap) (inner : Gap → List Word) → Inner inner → Tidy (operand_words e gap inner)
operand_tidy e gap inner tidy = choice (is_plain e) (inner gap) (grouped_words gap inner) (tidy gap) (grouped_tidy gap inner tidy)

mutual
  pub expression_tidy : (e : Tree) → IsTree e → (gap : Gap) → Tidy (expression_words e gap)
  expression_tidy (number l) is gap = literal_tidy l gap
  expression_tidy (truth value at) is gap = truth_tidy value gap
  expression_tidy (named first field) is gap = reference_tidy first field gap is.0 is.1
  expression_tidy (binary op left right at) is gap =
      joined (operand_words left gap (expression_words left)) (operator op ∷ operand_words right Space (expression_words right))
      (operand_tidy left gap (expression_words left) (expression_tidy left is.0))
      (operator_tidy op (operand_words right Space (expression_words right)) (operand_tidy right Space (expression_words right) (expression_tidy right is.1)))
  expression_tidy (rest left by at) is gap =
      joined (operand_words left gap (expression_words left)) (sign Space (codes "%") ∷ literal_words Space by)
      (operand_tidy left gap (expression_words left) (expression_tidy left is.0)) (literal_tidy by Space)
  expression_tidy (negated part at) is gap = grouped_tidy Touching (expression_words part) (expression_tidy part is)
  expression_tidy (denied part at) is gap = grouped_tidy Space (expression_words part) (expression_tidy part is)
  expression_tidy (called func parts at) is gap =
      function_tidy func gap (sign Touching (codes "(") ∷ parts_from true parts ++ sign Touching (codes ")") ∷ [])
      (joined (sign Touching (codes "(") ∷ parts_from true parts) (sign Touching (codes ")") ∷ []) (parts_tidy true parts is.1) refl)
  expression_tidy (rescaled part to at) is gap =
      let head : List Word = keyword gap (codes "rescale") ∷ sign Touching (codes "(") ∷ expression_words part Touching in
      let comma : List Word = sign Touching (codes ",") ∷ literal_words Space to in
      joined (head ++ comma) (sign Touching (codes ")") ∷ []) (joined head comma (expression_tidy part is.0 Touching) (literal_tidy to Space)) refl
  expression_tidy (chosen cond_ yes_ no_ at) is gap =
      let one : List Word = keyword gap (codes "if") ∷ operand_words cond_ Space (expression_words cond_) in
      let two : List Word = keyword Space (codes "then") ∷ operand_words yes_ Space (expression_words yes_) in
      let three : List Word = keyword Space (codes "else") ∷ operand_words no_ Space (expression_words no_) in
      joined (one ++ two) three
      (joined one two (operand_tidy cond_ Space (expression_words cond_) (expression_tidy cond_ is.0))
      (operand_tidy yes_ Space (expression_words yes_) (expression_tidy yes_ is.1)))
      (operand_tidy no_ Space (expression_words no_) (expression_tidy no_ is.2))

  parts_tidy : (first : Bool) (parts : Trees) → AreTrees parts → Tidy (parts_from first parts)
  parts_tidy first no_tree is = refl
  parts_tidy true (one_more e rest_) is =
      joined (expression_words e Touching) (parts_from false rest_) (expression_tidy e is.0 Touching) (parts_tidy false rest_ is.1)
  parts_tidy false (one_more e rest_) is =
      joined (sign Touching (codes ",") ∷ expression_words e Space) (parts_from false rest_) (expression_tidy e is.0 Space) (parts_tidy false rest_ is.1)

-- ---- statements

pub braced_tidy : (indent : ℕ) (inner : ℕ → List Word) → ((deeper : ℕ) → Tidy (inner deeper)) → Tidy (braced_words indent inner)
braced_tidy indent inner tidy = joined (sign Space (codes "{") ∷ inner (indent + 2)) (sign (Line indent) (codes "}") ∷ []) (tidy (indent + 2)) refl

otherwise_tidy : (block : Block) (indent : ℕ) (inner : ℕ → List Word) → ((deeper : ℕ) → Tidy (inner deeper)) → Tidy (otherwise_words block indent inner)
otherwise_tidy no_statement indent inner tidy = refl
otherwise_tidy (statement s rest_) indent inner tidy = braced_tidy indent inner tidy

mutual
  pub statement_tidy : (s : Statement) → IsStatement s → (indent : ℕ) → Tidy (statement_words s indent)
  statement_tidy (assigned target value) is indent =
      joined (name (Line indent) target.name ∷ sign Space (codes ":=") ∷ expression_words value Space) semicolon
      (then_word (name (Line indent) target.name) (sign Space (codes ":=") ∷ expression_words value Space) (name_tidy (Line indent) target.name is.0)
      (expression_tidy value is.1 Space))
      refl
  statement_tidy (published topic field value) is indent =
      let head : List Word = keyword (Line indent) (codes "publish") ∷ reference_words Space topic field in
      let set : List Word = sign Space (codes "=") ∷ expression_words value Space in
      joined (head ++ set) semicolon (joined head set (reference_tidy topic field Space is.0 is.1) (expression_tidy value is.2 Space)) refl
  statement_tidy (branched cond_ yes_ no_ at) is indent =
      let head : List Word = keyword (Line indent) (codes "if") ∷ expression_words cond_ Space in
      joined (head ++ braced_words indent (block_words yes_)) (otherwise_words no_ indent (block_words no_))
      (joined head (braced_words indent (block_words yes_)) (expression_tidy cond_ is.0 Space) (braced_tidy indent (block_words yes_) (block_tidy yes_ is.1)))
      (otherwise_tidy no_ indent (block_words no_) (block_tidy no_ is.2))
  statement_tidy (repeated times body at) is indent =
      joined (keyword (Line indent) (codes "repeat") ∷ literal_words Space times) (braced_words indent (block_words body)) (literal_tidy times Space)
      (braced_tidy indent (block_words body) (block_tidy body is.1))

  pub block_tidy : (b : Block) → IsBlock b → (indent : ℕ) → Tidy (block_words b indent)
  block_tidy no_statement is indent = refl
  block_tidy (statement s rest_) is indent =
      joined (statement_words s indent) (block_words rest_ indent) (statement_tidy s is.0 indent) (block_tidy rest_ is.1 indent)
