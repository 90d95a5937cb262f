-- The words of expressions are tokens that may follow one another.
use Rattle.std.proofs.Common.{true, false, List, [], ◌∷◌, ◌++◌, codes, refl}
use Rattle.sot_text.specs.declared.token.Kind.TheVariants.{Keyword}
use Rattle.sot_text.specs.Lexeme.{IsTokenText}
use Rattle.sot_syntax_tree.specs.declared.operator.Op.{Op}
use Rattle.sot_syntax_tree.specs.declared.operator.Op.TheVariants.{Add, Sub, Mul, Div, Less, LessEqual, Greater, GreaterEqual, Equal, NotEqual, And, Or}
use Rattle.sot_syntax_tree.specs.declared.operator.Func.{Func}
use Rattle.sot_syntax_tree.specs.declared.operator.Func.TheVariants.{Min, Max, Abs, Clamp}
use Rattle.sot_syntax_tree.specs.Trees.{Tree, Trees, number, truth, named, binary, rest, negated, denied, called, rescaled, chosen, no_tree, one_more}
use Rattle.sot_print.specs.declared.gap.Gap.{Gap}
use Rattle.sot_print.specs.declared.gap.Gap.TheVariants.{Touching, Space}
use Rattle.sot_print.specs.Words.{Word, keyword, sign}
use Rattle.sot_print.specs.Leaves.{literal_words}
use Rattle.sot_print.specs.Expressions.{operator, function_name, is_plain, grouped_words, operand_words, expression_words, parts_from}
use Rattle.sot_syntax_tree.specs.Formed.{IsTree, AreTrees}
use Rattle.sot_print.proofs.Sits.{IsTok, Sits, SitsAnywhere, Enters, spaced, ended, then_word, joined, choice, sign_token, closes, opens, round_ends}
use Rattle.sot_print.proofs.Sits.{minus_ends}
use Rattle.sot_print.proofs.LeafSits.{literal_sits, reference_sits, truth_sits}

operator_sits : (op : Op) (a : Word) (ws : List Word) → Sits (operator op) ws → Sits a (operator op ∷ ws)
operator_sits Add a ws sits = then_word (sign_token (codes "+") refl) tt sits
operator_sits Sub a ws sits = then_word (sign_token (codes "-") refl) tt sits
operator_sits Mul a ws sits = then_word (sign_token (codes "*") refl) tt sits
operator_sits Div a ws sits = then_word (sign_token (codes "/") refl) tt sits
operator_sits Less a ws sits = then_word (sign_token (codes "<") refl) tt sits
operator_sits LessEqual a ws sits = then_word (sign_token (codes "<=") refl) tt sits
operator_sits Greater a ws sits = then_word (sign_token (codes ">") refl) tt sits
operator_sits GreaterEqual a ws sits = then_word (sign_token (codes ">=") refl) tt sits
operator_sits Equal a ws sits = then_word (sign_token (codes "==") refl) tt sits
operator_sits NotEqual a ws sits = then_word (sign_token (codes "!=") refl) tt sits
operator_sits And a ws sits = then_word refl tt sits
operator_sits Or a ws sits = then_word refl tt sits

function_word : (f : Func) → IsTokenText Keyword (function_name f)
function_word Min = refl
function_word Max = refl
function_word Abs = refl
function_word Clamp = refl

round_closes : SitsAnywhere (sign Touching (codes ")") ∷ [])
round_closes = closes (codes ")") [] refl refl (ended (sign Touching (codes ")")) (sign_token (codes ")") refl))

-- what an expression's words are, whatever stands before them
abbrev Inner : (Gap → List Word) → Type 0
Inner inner = (a : Word) (gap : Gap) → Enters a gap → Sits a (inner gap)

grouped_sits : (gap : Gap) (inner : Gap → List Word) → Inner inner → (a : Word) → Enters a gap → Sits a (grouped_words gap inner)
grouped_sits gap inner sits a enters =
    let round : IsTok (sign gap (codes "(")) = sign_token (codes "(") refl in
    joined (sign gap (codes "(") ∷ inner Touching) (sign Touching (codes ")") ∷ [])
    (then_word round (enters (sign gap (codes "(")) round) (sits (sign gap (codes "(")) Touching (opens gap (codes "(") refl round_ends)))
    round_closes

operand_sits : (e : Tree) (gap : Gap) (inner : Gap → List Word) → Inner inner → (a : Word) → Enters a gap → Sits a (operand_words e gap inner)
operand_sits e gap inner sits a enters = choice (is_plain e) (inner gap) (grouped_words gap inner) (sits a gap enters) (grouped_sits gap inner sits a enters)

mutual
  pub expression_sits : (e : Tree) → IsTree e → (a : Word) (gap : Gap) → Enters a gap → Sits a (expression_words e gap)
  expression_sits (number l) is a gap enters = literal_sits l a gap is enters
  expression_sits (truth value at) is a gap enters = truth_sits value a gap enters
  expression_sits (named first field) is a gap enters = reference_sits first field a gap is.0 is.1 enters
  expression_sits (binary op left right at) is a gap enters =
      joined (operand_words left gap (expression_words left)) (operator op ∷ operand_words right Space (expression_words right))
      (operand_sits left gap (expression_words left) (expression_sits left is.0) a enters)
      (λ v tok. operator_sits op v (operand_words right Space (expression_words right))
      (operand_sits right Space (expression_words right) (expression_sits right is.1) (operator op) (spaced (operator op))))
  expression_sits (rest left by at) is a gap enters =
      joined (operand_words left gap (expression_words left)) (sign Space (codes "%") ∷ literal_words Space by)
      (operand_sits left gap (expression_words left) (expression_sits left is.0) a enters)
      (λ v tok. then_word (sign_token (codes "%") refl) tt (literal_sits by (sign Space (codes "%")) Space is.1.0 (spaced (sign Space (codes "%")))))
  expression_sits (negated part at) is a gap enters =
      let minus : IsTok (sign gap (codes "-")) = sign_token (codes "-") refl in
      then_word minus (enters (sign gap (codes "-")) minus)
      (grouped_sits Touching (expression_words part) (expression_sits part is) (sign gap (codes "-")) (opens gap (codes "-") refl minus_ends))
  expression_sits (denied part at) is a gap enters =
      let word : IsTok (keyword gap (codes "not")) = refl in
      then_word word (enters (keyword gap (codes "not")) word)
      (grouped_sits Space (expression_words part) (expression_sits part is) (keyword gap (codes "not")) (spaced (keyword gap (codes "not"))))
  expression_sits (called func parts at) is a gap enters =
      let word : IsTok (keyword gap (function_name func)) = function_word func in
      joined (keyword gap (function_name func) ∷ sign Touching (codes "(") ∷ parts_from true parts) (sign Touching (codes ")") ∷ [])
      (then_word word (enters (keyword gap (function_name func)) word)
      (closes (codes "(") (parts_from true parts) refl refl (first_sits parts is.1) (keyword gap (function_name func)) word))
      round_closes
  expression_sits (rescaled part to at) is a gap enters =
      let word : IsTok (keyword gap (codes "rescale")) = refl in
      let head : List Word = keyword gap (codes "rescale") ∷ sign Touching (codes "(") ∷ expression_words part Touching in
      let comma : List Word = sign Touching (codes ",") ∷ literal_words Space to in
      joined (head ++ comma) (sign Touching (codes ")") ∷ [])
      (joined head comma
      (then_word word (enters (keyword gap (codes "rescale")) word)
      (closes (codes "(") (expression_words part Touching) refl refl
      (expression_sits part is.0 (sign Touching (codes "(")) Touching (opens Touching (codes "(") refl round_ends)) (keyword gap (codes "rescale")) word))
      (closes (codes ",") (literal_words Space to) refl refl (literal_sits to (sign Touching (codes ",")) Space is.1.0 (spaced (sign Touching (codes ","))))))
      round_closes
  expression_sits (chosen cond_ yes_ no_ at) is a gap enters =
      let word : IsTok (keyword gap (codes "if")) = refl in
      let one : List Word = keyword gap (codes "if") ∷ operand_words cond_ Space (expression_words cond_) in
      let two : List Word = keyword Space (codes "then") ∷ operand_words yes_ Space (expression_words yes_) in
      let three : List Word = keyword Space (codes "else") ∷ operand_words no_ Space (expression_words no_) in
      joined (one ++ two) three
      (joined one two
      (then_word word (enters (keyword gap (codes "if")) word)
      (operand_sits cond_ Space (expression_words cond_) (expression_sits cond_ is.0) (keyword gap (codes "if")) (spaced (keyword gap (codes "if")))))
      (λ v tok. then_word refl tt (operand_sits yes_ Space (expression_words yes_) (expression_sits yes_ is.1) (keyword Space (codes "then"))
      (spaced (keyword Space (codes "then"))))))
      (λ v tok. then_word refl tt (operand_sits no_ Space (expression_words no_) (expression_sits no_ is.2) (keyword Space (codes "else"))
      (spaced (keyword Space (codes "else")))))

  first_sits : (parts : Trees) → AreTrees parts → Sits (sign Touching (codes "(")) (parts_from true parts)
  first_sits no_tree is = ended (sign Touching (codes "(")) (sign_token (codes "(") refl)
  first_sits (one_more e rest_) is =
      joined (expression_words e Touching) (parts_from false rest_)
      (expression_sits e is.0 (sign Touching (codes "(")) Touching (opens Touching (codes "(") refl round_ends)) (more_sits rest_ is.1)

  more_sits : (parts : Trees) → AreTrees parts → SitsAnywhere (parts_from false parts)
  more_sits no_tree is = ended
  more_sits (one_more e rest_) is =
      λ v tok. joined (sign Touching (codes ",") ∷ expression_words e Space) (parts_from false rest_)
      (closes (codes ",") (expression_words e Space) refl refl (expression_sits e is.0 (sign Touching (codes ",")) Space (spaced (sign Touching (codes ",")))) v
      tok)
      (more_sits rest_ is.1)
