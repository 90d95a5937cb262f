-- The words of expressions. The gap is what stands before the first word.
use Rattle.std.specs.Prelude.{ℕ, Bool, true, false, if◌then◌else◌, List, [], ◌∷◌, ◌++◌, codes}
use Rattle.sot_syntax_tree.specs.declared.operator.Op.{Op}
use Rattle.sot_syntax_tree.specs.declared.operator.Op.TheVariants.{Add, Sub, Mul, Div, Less}
use Rattle.sot_syntax_tree.specs.declared.operator.Op.TheVariants.{LessEqual}
use Rattle.sot_syntax_tree.specs.declared.operator.Op.TheVariants.{Greater, GreaterEqual, Equal}
use Rattle.sot_syntax_tree.specs.declared.operator.Op.TheVariants.{NotEqual}
use Rattle.sot_syntax_tree.specs.declared.operator.Op.TheVariants.{And, Or}
use Rattle.sot_syntax_tree.specs.declared.operator.Func.{Func}
use Rattle.sot_syntax_tree.specs.declared.operator.Func.TheVariants.{Min, Max, Abs, Clamp}
use Rattle.sot_syntax_tree.specs.Trees.{Tree, Trees, number, truth as truth_value, named, binary}
use Rattle.sot_syntax_tree.specs.Trees.{rest}
use Rattle.sot_syntax_tree.specs.Trees.{negated, denied, called, rescaled, chosen, no_tree}
use Rattle.sot_syntax_tree.specs.Trees.{one_more}
use Rattle.sot_print.specs.declared.gap.Gap.{Gap}
use Rattle.sot_print.specs.declared.gap.Gap.TheVariants.{Touching, Space}
use Rattle.sot_print.specs.Words.{Word, keyword, sign}
use Rattle.sot_print.specs.Leaves.{literal_words, reference_words, truth_words, separated}

abbrev pub operator : Op → Word
operator Add = sign Space (codes "+")
operator Sub = sign Space (codes "-")
operator Mul = sign Space (codes "*")
operator Div = sign Space (codes "/")
operator Less = sign Space (codes "<")
operator LessEqual = sign Space (codes "<=")
operator Greater = sign Space (codes ">")
operator GreaterEqual = sign Space (codes ">=")
operator Equal = sign Space (codes "==")
operator NotEqual = sign Space (codes "!=")
operator And = keyword Space (codes "and")
operator Or = keyword Space (codes "or")

abbrev pub function_name : Func → List ℕ
function_name Min = codes "min"
function_name Max = codes "max"
function_name Abs = codes "abs"
function_name Clamp = codes "clamp"

-- a literal, `true`, `false`, a name or a call
abbrev pub is_plain : Tree → Bool
is_plain (number l) = true
is_plain (truth_value value at) = true
is_plain (named first field) = true
is_plain (binary op left right at) = false
is_plain (rest left by at) = false
is_plain (negated part at) = false
is_plain (denied part at) = false
is_plain (called func parts at) = true
is_plain (rescaled part to at) = true
is_plain (chosen cond yes_ no_ at) = false

-- in parentheses
abbrev pub grouped_words : Gap → (Gap → List Word) → List Word
grouped_words gap inner = sign gap (codes "(") ∷ inner Touching ++ sign Touching (codes ")") ∷ []

-- in parentheses unless it is plain
abbrev pub operand_words : Tree → Gap → (Gap → List Word) → List Word
operand_words e gap inner = if is_plain e then inner gap else grouped_words gap inner

abbrev mutual
  pub expression_words : Tree → Gap → List Word
  expression_words (number l) gap = literal_words gap l
  expression_words (truth_value value at) gap = truth_words gap value
  expression_words (named first field) gap = reference_words gap first field
  expression_words (binary op left right at) gap =
      operand_words left gap (expression_words left)
      ++ operator op ∷ operand_words right Space (expression_words right)
  expression_words (rest left by at) gap =
      operand_words left gap (expression_words left)
      ++ sign Space (codes "%") ∷ literal_words Space by
  expression_words (negated part at) gap =
      sign gap (codes "-") ∷ grouped_words Touching (expression_words part)
  expression_words (denied part at) gap =
      keyword gap (codes "not") ∷ grouped_words Space (expression_words part)
  expression_words (called func parts at) gap =
      keyword gap (function_name func) ∷ sign Touching (codes "(") ∷ parts_from true parts
      ++ sign Touching (codes ")") ∷ []
  expression_words (rescaled part to at) gap =
      keyword gap (codes "rescale") ∷ sign Touching (codes "(") ∷ expression_words part Touching
      ++ sign Touching (codes ",") ∷ literal_words Space to ++ sign Touching (codes ")") ∷ []
  expression_words (chosen cond yes_ no_ at) gap =
      keyword gap (codes "if") ∷ operand_words cond Space (expression_words cond)
      ++ keyword Space (codes "then") ∷ operand_words yes_ Space (expression_words yes_)
      ++ keyword Space (codes "else") ∷ operand_words no_ Space (expression_words no_)

  -- the parts of a call, with a comma before each but the first
  pub parts_from : Bool → Trees → List Word
  parts_from first no_tree = []
  parts_from first (one_more e rest_) =
      separated first Touching (expression_words e) ++ parts_from false rest_
