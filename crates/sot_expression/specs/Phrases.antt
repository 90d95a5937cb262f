-- The grammar of expressions: what the tokens of an expression are, one case for each production.
use Rattle.std.specs.Prelude.{◌≡◌, ℕ, ◌+◌, ◌<◌, ◌≤◌, max, ◌==◌, List, ◌∷◌, Bool, true, false, codes}
use Rattle.std.specs.Prelude.{None, Some, if◌then◌else◌}
use Rattle.sot_text.specs.Reading.{Lexeme}
use Rattle.sot_syntax_tree.specs.declared.operator.Op.{Op}
use Rattle.sot_syntax_tree.specs.declared.operator.Op.TheVariants.{Add, Sub, Mul, Div, Less}
use Rattle.sot_syntax_tree.specs.declared.operator.Op.TheVariants.{LessEqual}
use Rattle.sot_syntax_tree.specs.declared.operator.Op.TheVariants.{Greater, GreaterEqual, Equal}
use Rattle.sot_syntax_tree.specs.declared.operator.Op.TheVariants.{NotEqual}
use Rattle.sot_syntax_tree.specs.declared.operator.Op.TheVariants.{And, Or}
use Rattle.sot_syntax_tree.specs.declared.operator.Func.{Func}
use Rattle.sot_syntax_tree.specs.declared.operator.Func.TheVariants.{Min, Max, Abs, Clamp}
use Rattle.sot_syntax_tree.specs.Trees.{Tree, number, truth, named, binary, rest, negated, denied}
use Rattle.sot_syntax_tree.specs.Trees.{called}
use Rattle.sot_syntax_tree.specs.Trees.{rescaled, chosen, no_tree, one_more}
use Rattle.sot_expression.specs.Lexemes.{IsKeyword, IsSign, IsName, IsNumber, begins, is_sign}
use Rattle.sot_expression.specs.Lexemes.{ident, literal, negative_literal}
use Rattle.sot_expression.specs.Stream.{first_of}
use Rattle.sot_expression.specs.Operators.{operator_from, tier_of_op}
use Rattle.sot_expression.specs.ExpressionReaders.{Part}

pub data Phrase : Type 0 where
  -- NUMBER
  a_number : Lexeme → Phrase
  -- "true" | "false"
  a_truth : Bool → Lexeme → Phrase
  -- NAME
  a_name : Lexeme → Phrase
  -- NAME "." NAME
  a_field : Lexeme → Lexeme → Lexeme → Phrase
  -- "(" expr ")"
  a_group : Lexeme → Phrase → Lexeme → Phrase
  -- "abs" "(" expr ")"
  an_abs : Lexeme → Lexeme → Phrase → Lexeme → Phrase
  -- ("min" | "max") "(" expr "," expr ")"
  a_pair : Func → Lexeme → Lexeme → Phrase → Lexeme → Phrase → Lexeme → Phrase
  -- "clamp" "(" expr "," expr "," expr ")"
  a_clamp : Lexeme → Lexeme → Phrase → Lexeme → Phrase → Lexeme → Phrase → Lexeme → Phrase
  -- "rescale" "(" expr "," NUMBER ")"
  a_rescale : Lexeme → Lexeme → Phrase → Lexeme → Lexeme → Lexeme → Phrase
  -- "-" unary
  a_minus : Lexeme → Phrase → Phrase
  -- product "%" NUMBER
  a_rest : Phrase → Lexeme → Lexeme → Phrase
  -- product ("*" | "/") unary, sum ("+" | "-") product, sum ("<" | ..) sum, and "and" not, or "or"
  -- and
  a_join : Op → Phrase → Lexeme → Phrase → Phrase
  -- "not" not
  a_not : Lexeme → Phrase → Phrase
  -- "if" expr "then" expr "else" expr
  an_if : Lexeme → Phrase → Lexeme → Phrase → Lexeme → Phrase → Phrase

-- the tokens of a phrase, and some behind them
abbrev pub spelled : Phrase → List Lexeme → List Lexeme
spelled (a_number n) ts = n ∷ ts
spelled (a_truth value t) ts = t ∷ ts
spelled (a_name n) ts = n ∷ ts
spelled (a_field n dot f) ts = n ∷ dot ∷ f ∷ ts
spelled (a_group open_ f close) ts = open_ ∷ spelled f (close ∷ ts)
spelled (an_abs w open_ f close) ts = w ∷ open_ ∷ spelled f (close ∷ ts)
spelled (a_pair func w open_ f comma g close) ts =
    w ∷ open_ ∷ spelled f (comma ∷ spelled g (close ∷ ts))
spelled (a_clamp w open_ f comma g comma2 h close) ts =
    w ∷ open_ ∷ spelled f (comma ∷ spelled g (comma2 ∷ spelled h (close ∷ ts)))
spelled (a_rescale w open_ f comma n close) ts = w ∷ open_ ∷ spelled f (comma ∷ n ∷ close ∷ ts)
spelled (a_minus t f) ts = t ∷ spelled f ts
spelled (a_rest f t n) ts = spelled f (t ∷ n ∷ ts)
spelled (a_join op f t g) ts = spelled f (t ∷ spelled g ts)
spelled (a_not t f) ts = t ∷ spelled f ts
spelled (an_if t c u f v g) ts = t ∷ spelled c (u ∷ spelled f (v ∷ spelled g ts))

-- the production: `unary` and `atom` 0, `product` 1, `sum` 2, `cmp` 3, `not` 4, `and` 5, `or` 6,
-- `expr` 7
abbrev pub tier_of : Phrase → ℕ
tier_of (a_number n) = 0
tier_of (a_truth value t) = 0
tier_of (a_name n) = 0
tier_of (a_field n dot f) = 0
tier_of (a_group open_ f close) = 0
tier_of (an_abs w open_ f close) = 0
tier_of (a_pair func w open_ f comma g close) = 0
tier_of (a_clamp w open_ f comma g comma2 h close) = 0
tier_of (a_rescale w open_ f comma n close) = 0
tier_of (a_minus t f) = 0
tier_of (a_rest f t n) = 1
tier_of (a_join op f t g) = tier_of_op op
tier_of (a_not t f) = 4
tier_of (an_if t c u f v g) = 7

-- the words of the language in these places
abbrev pub IsTruth : Bool → Lexeme → Type 0
IsTruth true t = IsKeyword (codes "true") t
IsTruth false t = IsKeyword (codes "false") t

abbrev pub IsPairWord : Func → Lexeme → Type 0
IsPairWord Min t = IsKeyword (codes "min") t
IsPairWord Max t = IsKeyword (codes "max") t
IsPairWord Abs t = ⊥
IsPairWord Clamp t = ⊥

abbrev pub IsOperator : Op → Lexeme → Type 0
IsOperator Add t = IsSign (codes "+") t
IsOperator Sub t = IsSign (codes "-") t
IsOperator Mul t = IsSign (codes "*") t
IsOperator Div t = IsSign (codes "/") t
IsOperator Less t = IsSign (codes "<") t
IsOperator LessEqual t = IsSign (codes "<=") t
IsOperator Greater t = IsSign (codes ">") t
IsOperator GreaterEqual t = IsSign (codes ">=") t
IsOperator Equal t = IsSign (codes "==") t
IsOperator NotEqual t = IsSign (codes "!=") t
IsOperator And t = IsKeyword (codes "and") t
IsOperator Or t = IsKeyword (codes "or") t

-- what stands left of an operator: comparisons do not go on
abbrev pub left_tier : ℕ → ℕ
left_tier tier = if tier == 3 then 2 else tier

-- each token is the one of its production, and each part is of a production that may stand there
abbrev pub IsPhrase : Phrase → Type 0
IsPhrase (a_number n) = IsNumber n
IsPhrase (a_truth value t) = IsTruth value t
IsPhrase (a_name n) = IsName n
IsPhrase (a_field n dot f) = IsName n × IsSign (codes ".") dot × IsName f
IsPhrase (a_group open_ f close) = IsSign (codes "(") open_ × IsPhrase f × IsSign (codes ")") close
IsPhrase (an_abs w open_ f close) =
    IsKeyword (codes "abs") w × IsSign (codes "(") open_ × IsPhrase f × IsSign (codes ")") close
IsPhrase (a_pair func w open_ f comma g close) =
    IsPairWord func w × IsSign (codes "(") open_ × IsPhrase f × IsSign (codes ",") comma
    × IsPhrase g × IsSign (codes ")") close
IsPhrase (a_clamp w open_ f comma g comma2 h close) =
    IsKeyword (codes "clamp") w × IsSign (codes "(") open_ × IsPhrase f × IsSign (codes ",") comma
    × IsPhrase g × IsSign (codes ",") comma2 × IsPhrase h × IsSign (codes ")") close
IsPhrase (a_rescale w open_ f comma n close) =
    IsKeyword (codes "rescale") w × IsSign (codes "(") open_ × IsPhrase f × IsSign (codes ",") comma
    × IsNumber n × IsSign (codes ")") close
IsPhrase (a_minus t f) = IsSign (codes "-") t × IsPhrase f × (tier_of f ≡ 0)
IsPhrase (a_rest f t n) = IsPhrase f × (tier_of f ≤ 1) × IsSign (codes "%") t × IsNumber n
IsPhrase (a_join op f t g) =
    IsPhrase f × (tier_of f ≤ left_tier (tier_of_op op)) × IsOperator op t × IsPhrase g
    × (tier_of g < tier_of_op op)
IsPhrase (a_not t f) = IsKeyword (codes "not") t × IsPhrase f × (tier_of f ≤ 4)
IsPhrase (an_if t c u f v g) =
    IsKeyword (codes "if") t × IsPhrase c × IsKeyword (codes "then") u × IsPhrase f
    × IsKeyword (codes "else") v × IsPhrase g

-- a minus directly before a number makes a negative literal
abbrev pub with_minus : Lexeme → Phrase → Tree → Tree
with_minus t (a_number n) tree = number (negative_literal t n)
with_minus t _ tree = negated tree t.at

abbrev pub tree_of : Phrase → Tree
tree_of (a_number n) = number (literal n)
tree_of (a_truth value t) = truth value t.at
tree_of (a_name n) = named (ident n) None
tree_of (a_field n dot f) = named (ident n) (Some (ident f))
tree_of (a_group open_ f close) = tree_of f
tree_of (an_abs w open_ f close) = called Abs (one_more (tree_of f) no_tree) w.at
tree_of (a_pair func w open_ f comma g close) =
    called func (one_more (tree_of f) (one_more (tree_of g) no_tree)) w.at
tree_of (a_clamp w open_ f comma g comma2 h close) =
    called Clamp (one_more (tree_of f) (one_more (tree_of g) (one_more (tree_of h) no_tree))) w.at
tree_of (a_rescale w open_ f comma n close) = rescaled (tree_of f) (literal n) w.at
tree_of (a_minus t f) = with_minus t f (tree_of f)
tree_of (a_rest f t n) = rest (tree_of f) (literal n) t.at
tree_of (a_join op f t g) = binary op (tree_of f) (tree_of g) t.at
tree_of (a_not t f) = denied (tree_of f) t.at
tree_of (an_if t c u f v g) = chosen (tree_of c) (tree_of f) (tree_of g) t.at

abbrev pub is_group : Phrase → Bool
is_group (a_group open_ f close) = true
is_group _ = false

abbrev pub is_numeral : Phrase → Bool
is_numeral (a_number n) = true
is_numeral _ = false

-- How deep it nests. Parentheses are a level exactly where they directly hold others.
abbrev pub levels_of : Phrase → ℕ
levels_of (a_number n) = 1
levels_of (a_truth value t) = 1
levels_of (a_name n) = 1
levels_of (a_field n dot f) = 1
levels_of (a_group open_ f close) = if is_group f then 1 + levels_of f else levels_of f
levels_of (an_abs w open_ f close) = 1 + levels_of f
levels_of (a_pair func w open_ f comma g close) = 1 + max (levels_of f) (levels_of g)
levels_of (a_clamp w open_ f comma g comma2 h close) =
    1 + max (levels_of f) (max (levels_of g) (levels_of h))
levels_of (a_rescale w open_ f comma n close) = 1 + levels_of f
levels_of (a_minus t f) = if is_numeral f then 1 else 1 + levels_of f
levels_of (a_rest f t n) = 1 + levels_of f
levels_of (a_join op f t g) = 1 + max (levels_of f) (levels_of g)
levels_of (a_not t f) = 1 + levels_of f
levels_of (an_if t c u f v g) = 1 + max (levels_of c) (max (levels_of f) (levels_of g))

-- what it is read as
abbrev pub part_of : Phrase → Part
part_of f = record { tree = tree_of f; levels = levels_of f; bare = is_group f }

-- no expression goes on with the next token: it is no operator and no point
abbrev pub Stops : List Lexeme → Type 0
Stops us = (operator_from (first_of us) ≡ None) × (begins (is_sign (codes ".")) us ≡ false)
