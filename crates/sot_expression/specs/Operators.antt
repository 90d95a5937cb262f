-- Operators between two operands, and what an operand begins with.
use Rattle.std.specs.Prelude.{ℕ, List, [], ◌∷◌, Bool, true, false, ◌==◌, codes, Option, None, Some}
use Rattle.std.specs.Prelude.{if◌then◌else◌}
use Rattle.sot_text.specs.Reading.{Lexeme}
use Rattle.sot_syntax_tree.specs.declared.operator.Op.{Op}
use Rattle.sot_syntax_tree.specs.declared.operator.Op.TheVariants.{Add, Sub, Mul, Div, Less}
use Rattle.sot_syntax_tree.specs.declared.operator.Op.TheVariants.{LessEqual}
use Rattle.sot_syntax_tree.specs.declared.operator.Op.TheVariants.{Greater, GreaterEqual, Equal}
use Rattle.sot_syntax_tree.specs.declared.operator.Op.TheVariants.{NotEqual}
use Rattle.sot_syntax_tree.specs.declared.operator.Op.TheVariants.{And, Or}
use Rattle.sot_syntax_tree.specs.declared.operator.Func.TheVariants.{Min, Max}
use Rattle.sot_expression.specs.declared.operators.Infix.{Infix}
use Rattle.sot_expression.specs.declared.operators.Infix.TheVariants.{Joins, Rests}
use Rattle.sot_expression.specs.declared.operators.Opening.{Opening}
use Rattle.sot_expression.specs.declared.operators.Opening.TheVariants as openings
use Rattle.sot_expression.specs.Lexemes.{is_sign, is_keyword, is_name, is_number}
use Rattle.sot_expression.specs.Stream.{first_of}

-- the first case whose test passes
abbrev pub first_case : {A : Type 0} → A → List (Bool × A) → A
first_case other [] = other
first_case other (c ∷ cs) = if c.0 then c.1 else first_case other cs

-- the operator that a token is
abbrev pub operator_of : Lexeme → Option Infix
operator_of t = first_case None (
    (is_sign (codes "*") t, Some (Joins Mul))
    ∷ (is_sign (codes "/") t, Some (Joins Div))
    ∷ (is_sign (codes "%") t, Some Rests)
    ∷ (is_sign (codes "+") t, Some (Joins Add))
    ∷ (is_sign (codes "-") t, Some (Joins Sub))
    ∷ (is_sign (codes "<") t, Some (Joins Less))
    ∷ (is_sign (codes "<=") t, Some (Joins LessEqual))
    ∷ (is_sign (codes ">") t, Some (Joins Greater))
    ∷ (is_sign (codes ">=") t, Some (Joins GreaterEqual))
    ∷ (is_sign (codes "==") t, Some (Joins Equal))
    ∷ (is_sign (codes "!=") t, Some (Joins NotEqual))
    ∷ (is_keyword (codes "and") t, Some (Joins And))
    ∷ (is_keyword (codes "or") t, Some (Joins Or))
    ∷ [])

-- The production that an operator stands in: `product` 1, `sum` 2, `cmp` 3, `and` 5, `or` 6. Of the
-- others `unary` is 0, `not`
-- 4 and `expr` 7.
abbrev pub tier_of_op : Op → ℕ
tier_of_op Add = 2
tier_of_op Sub = 2
tier_of_op Mul = 1
tier_of_op Div = 1
tier_of_op Less = 3
tier_of_op LessEqual = 3
tier_of_op Greater = 3
tier_of_op GreaterEqual = 3
tier_of_op Equal = 3
tier_of_op NotEqual = 3
tier_of_op And = 5
tier_of_op Or = 6

abbrev pub tier_of_infix : Infix → ℕ
tier_of_infix (Joins op) = tier_of_op op
tier_of_infix Rests = 1

abbrev pub of_tier : ℕ → Option Infix → Option Infix
of_tier tier None = None
of_tier tier (Some o) = if tier_of_infix o == tier then Some o else None

abbrev pub operator_from : Option Lexeme → Option Infix
operator_from None = None
operator_from (Some t) = operator_of t

-- the operator of a production that comes next
abbrev pub infix_at : ℕ → List Lexeme → Option Infix
infix_at tier ts = of_tier tier (operator_from (first_of ts))

-- what an atom begins with
abbrev pub opening_of : Lexeme → Opening
opening_of t = first_case openings.Other (
    (is_number t, openings.Number)
    ∷ (is_name t, openings.Name)
    ∷ (is_sign (codes "(") t, openings.Group)
    ∷ (is_keyword (codes "true") t, openings.Truth true)
    ∷ (is_keyword (codes "false") t, openings.Truth false)
    ∷ (is_keyword (codes "min") t, openings.Pair Min)
    ∷ (is_keyword (codes "max") t, openings.Pair Max)
    ∷ (is_keyword (codes "abs") t, openings.Abs)
    ∷ (is_keyword (codes "clamp") t, openings.Clamp)
    ∷ (is_keyword (codes "rescale") t, openings.Rescale)
    ∷ [])

abbrev pub opening_from : Option Lexeme → Opening
opening_from None = openings.Other
opening_from (Some t) = opening_of t

abbrev pub opening_at : List Lexeme → Opening
opening_at ts = opening_from (first_of ts)
