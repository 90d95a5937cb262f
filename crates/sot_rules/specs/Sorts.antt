-- Sorts: when two of them fit, and what the operators make of them. What may be anything fits
-- everything.
use Rattle.std.specs.Prelude.{ℕ, ◌+◌, ◌-◌, nat_lt, ◌==◌, Bool, true, false, not, ◌&&◌, ◌||◌}
use Rattle.std.specs.Prelude.{if◌then◌else◌, List, [], ◌∷◌, Option, Some, None, nat_abs, fold}
use Rattle.sot_syntax_tree.specs.declared.tree.Lit.{Lit}
use Rattle.sot_syntax_tree.specs.declared.tree.Scalar.{Scalar}
use Rattle.sot_syntax_tree.specs.declared.tree.Scalar.TheVariants.{Int, Fix, Bool as BoolScalar}
use Rattle.sot_syntax_tree.specs.declared.tree.Const.{Const}
use Rattle.sot_syntax_tree.specs.declared.tree.Const.TheVariants.{Number, Truth}
use Rattle.sot_syntax_tree.specs.declared.tree.StateDecl.{StateDecl}
use Rattle.sot_syntax_tree.specs.declared.operator.Op.{Op}
use Rattle.sot_syntax_tree.specs.declared.operator.Op.TheVariants.{Add, Sub, Mul, Div, And, Or}
use Rattle.sot_rules.specs.declared.expressions.sort.Sort.{Sort}
use Rattle.sot_rules.specs.declared.expressions.sort.Sort.TheVariants.{Scaled, Truthful, Anything}

-- a written count of decimals: any number is taken as it stands, and one that has decimals itself
-- says nothing
abbrev pub scale_sort : Lit → Sort
scale_sort d = if d.scale == 0 then Scaled (nat_abs d.mantissa) else Anything

abbrev pub scalar_sort : Scalar → Sort
scalar_sort (Int b) = Scaled 0
scalar_sort (Fix d b) = scale_sort d
scalar_sort (BoolScalar at) = Truthful

abbrev pub written_scale : Option Lit → Sort
written_scale None = Scaled 0
written_scale (Some d) = scale_sort d

abbrev pub state_sort : StateDecl → Sort
state_sort s = written_scale s.scale

abbrev pub const_sort : Const → Sort
const_sort (Number l) = Scaled l.scale
const_sort (Truth b at) = Truthful

abbrev pub is_truthful : Sort → Bool
is_truthful (Scaled s) = false
is_truthful Truthful = true
is_truthful Anything = false

abbrev pub is_scaled : Sort → Bool
is_scaled (Scaled s) = true
is_scaled Truthful = false
is_scaled Anything = false

-- two numbers, whose scales pass a test
abbrev pub scales_pass : (ℕ → ℕ → Bool) → Sort → Sort → Bool
scales_pass test (Scaled s) (Scaled t) = test s t
scales_pass test (Scaled s) Truthful = false
scales_pass test (Scaled s) Anything = false
scales_pass test Truthful b = false
scales_pass test Anything b = false

-- two numbers of different scales
abbrev pub differ : Sort → Sort → Bool
differ a b = scales_pass (λ s t. not (s == t)) a b

-- a truth value and a number
abbrev pub are_mixed : Sort → Sort → Bool
are_mixed a b = (is_truthful a && is_scaled b) || (is_scaled a && is_truthful b)

-- `and` and `or` take truth values, and every other operator numbers
abbrev pub kinds_misfit : Op → Sort → Sort → Bool
kinds_misfit And a b = is_scaled a || is_scaled b
kinds_misfit Or a b = is_scaled a || is_scaled b
kinds_misfit _ a b = is_truthful a || is_truthful b

-- a product has at most 6 decimals, a quotient not less than none, and every other operator takes
-- numbers of one scale
abbrev pub scales_misfit : Op → Sort → Sort → Bool
scales_misfit And a b = false
scales_misfit Or a b = false
scales_misfit Mul a b = scales_pass (λ s t. nat_lt 6 (s + t)) a b
scales_misfit Div a b = scales_pass (λ s t. nat_lt s t) a b
scales_misfit _ a b = differ a b

-- the scale of a result, from those of two numbers
abbrev pub with_scales : (ℕ → ℕ → ℕ) → Sort → Sort → Sort
with_scales f (Scaled s) (Scaled t) = Scaled (f s t)
with_scales f (Scaled s) Truthful = Anything
with_scales f (Scaled s) Anything = Anything
with_scales f Truthful b = Anything
with_scales f Anything b = Anything

-- what an operator gives, of operands that fit it
abbrev pub operator_sort : Op → Sort → Sort → Sort
operator_sort Add a b = a
operator_sort Sub a b = a
operator_sort Mul a b = with_scales (λ s t. s + t) a b
operator_sort Div a b = with_scales (λ s t. s - t) a b
operator_sort _ a b = Truthful

-- s, or anything where a rule fails
abbrev pub unless : Bool → Sort → Sort
unless fails s = if fails then Anything else s

-- s, or anything where an operand may be anything
abbrev pub given : Sort → Sort → Sort
given (Scaled t) s = s
given Truthful s = s
given Anything s = Anything

-- some number differs in scale from the last number before it
abbrev pub differ_after : Sort → List Sort → Bool
differ_after last [] = false
differ_after last (a ∷ more) = differ last a || differ_after (if is_scaled a then a else last) more

-- some two of the operands of a call are numbers of different scales
abbrev pub some_differ : List Sort → Bool
some_differ operands = differ_after Anything operands

-- what a call gives, of operands that fit it: their sort, or anything where one of them may be
abbrev pub call_sort : List Sort → Sort
call_sort operands = fold given Truthful operands

-- a condition is a truth value, and the branches are of one kind
abbrev pub branches_misfit : Sort → Sort → Sort → Bool
branches_misfit c a b = is_scaled c || are_mixed a b
