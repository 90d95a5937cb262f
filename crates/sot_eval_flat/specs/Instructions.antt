-- What an instruction makes of three numbers, and what a list of instructions does.
use Rattle.std.specs.Prelude.{◌≡◌, ℕ, ℤ, pos, ◌-ℤ◌, ◌*ℤ◌, neg_ℤ, not, ◌&&◌, int_le}
use Rattle.std.specs.Prelude.{if◌then◌else◌, true, Ok, List, [], ◌∷◌}
use Rattle.std.specs.Prelude.{slice_index_or, slice_set}
use Rattle.std.specs.Int.{int_min, int_max}
use Rattle.sot_text.specs.declared.token.Span.{Span}
use Rattle.sot_syntax_tree.specs.declared.operator.Op.TheVariants as op
use Rattle.sot_lang.specs.declared.trap.TrapKind.TheVariants.{ZeroDivisor}
use Rattle.sot_lang.specs.Values.{Outcome, apply, trap, word, truth, is_true, floor_div, branch}
use Rattle.sot_lang.specs.Bodies.{within}
use Rattle.sot_eval_flat.specs.declared.instruction.Instruction.{Instruction}
use Rattle.sot_eval_flat.specs.declared.instruction.Make.{Make}
use Rattle.sot_eval_flat.specs.declared.instruction.Make.TheVariants.{Add, Sub, Mul, Div, Less}
use Rattle.sot_eval_flat.specs.declared.instruction.Make.TheVariants.{LessEqual, Greater}
use Rattle.sot_eval_flat.specs.declared.instruction.Make.TheVariants.{GreaterEqual, Equal}
use Rattle.sot_eval_flat.specs.declared.instruction.Make.TheVariants.{NotEqual}
use Rattle.sot_eval_flat.specs.declared.instruction.Make.TheVariants.{And, Or, Min, Max, Neg, Not}
use Rattle.sot_eval_flat.specs.declared.instruction.Make.TheVariants.{Rest, Select, Within}
use Rattle.sot_eval_flat.specs.declared.instruction.Make.TheVariants.{Clamp, Without, Abs}

-- what is made of the numbers at places a, b and c
abbrev pub made : Make → Span → ℤ → ℤ → ℤ → Outcome ℤ
made Add at a b c = apply op.Add at a b
made Sub at a b c = apply op.Sub at a b
made Mul at a b c = apply op.Mul at a b
made Div at a b c = apply op.Div at a b
made Less at a b c = apply op.Less at a b
made LessEqual at a b c = apply op.LessEqual at a b
made Greater at a b c = apply op.Greater at a b
made GreaterEqual at a b c = apply op.GreaterEqual at a b
made Equal at a b c = apply op.Equal at a b
made NotEqual at a b c = apply op.NotEqual at a b
made And at a b c = apply op.And at a b
made Or at a b c = apply op.Or at a b
made Without at a b c = Ok (truth (is_true a && not (is_true b)))
made Min at a b c = Ok (int_min a b)
made Max at a b c = Ok (int_max a b)
made Clamp at a b c = Ok (int_max b (int_min a c))
made Neg at a b c = word at (neg_ℤ a)
made Abs at a b c = word at (int_max a (neg_ℤ a))
made Not at a b c = Ok (truth (not (is_true a)))
made Rest at a b c =
    if int_le (pos 1) b then Ok (a -ℤ (b *ℤ floor_div a b)) else trap at ZeroDivisor
made Select at a b c = branch (Ok a) (Ok b) (Ok c)
made Within at a b c = within (record { lo = b; hi = c }) at a

-- the number at a place
abbrev pub number_at : List ℤ → ℕ → ℤ
number_at xs k = slice_index_or xs k (pos 0)

-- one instruction makes the second list of the first; where a trap does not count, by any number
abbrev pub Does : Instruction → List ℤ → List ℤ → Type 0
Does i xs ys =
    (z : ℤ)
    × (is_true (number_at xs i.counts) ≡ true
    → (at : Span)
    → made i.make at (number_at xs i.a) (number_at xs i.b) (number_at xs i.c) ≡ Ok z)
    × (ys ≡ slice_set xs i.to z)

-- instructions do, one after another
abbrev pub Runs : List Instruction → List ℤ → List ℤ → Type 0
Runs [] xs ys = ys ≡ xs
Runs (i ∷ rest) xs ys = (zs : List ℤ) × Does i xs zs × Runs rest zs ys
