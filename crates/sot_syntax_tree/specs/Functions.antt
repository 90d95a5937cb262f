-- The functions of the language.
use Rattle.std.specs.Prelude.{ℕ}
use Rattle.sot_syntax_tree.specs.declared.operator.Func.{Func}
use Rattle.sot_syntax_tree.specs.declared.operator.Func.TheVariants.{Min, Max, Abs, Clamp}

-- how many parts a function takes
abbrev pub arity : Func → ℕ
arity Min = 2
arity Max = 2
arity Abs = 1
arity Clamp = 3
