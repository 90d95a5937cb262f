-- What instructions compute of an expression. The numbers of n names stand first, and the numbers
-- that the body states behind them.
use Rattle.std.specs.Prelude.{◌≡◌, ℕ, ◌+◌, ◌≤◌, ℤ, true, List, Ok, length, take, slice_set}
use Rattle.sot_lists.specs.Places.{At}
use Rattle.sot_text.specs.declared.token.Span.{Span}
use Rattle.sot_syntax_tree.specs.declared.operator.Func.{Func}
use Rattle.sot_lang.specs.declared.term.Term.{Term}
use Rattle.sot_lang.specs.Values.{value_of, then_with, called, is_true}
use Rattle.sot_lang.specs.Ticks.{values}
use Rattle.sot_lang.specs.Bodies.{within}
use Rattle.sot_eval_flat.specs.declared.instruction.Instruction.{Instruction}
use Rattle.sot_eval_flat.specs.Instructions.{Runs, number_at}

-- there are 256 places, and the stated numbers are in theirs
abbrev pub IsRoom : ℕ → List ℤ → List ℤ → Type 0
IsRoom n stated xs =
    (length xs ≡ 256) × ((k : ℕ) (z : ℤ) → At stated k z → number_at xs (n + k) ≡ z)

-- the instructions leave all below base, and then, where traps count, it is as told of the names
-- and the places
abbrev pub Leads : ℕ → List ℤ → ℕ → ℕ → List Instruction → (List ℤ → List ℤ → Type 0) → Type 0
Leads n stated counts base line Told =
    (xs ys : List ℤ) → IsRoom n stated xs → Runs line xs ys
    → (take base ys ≡ take base xs) × (length ys ≡ 256)
    × (is_true (number_at ys counts) ≡ true → Told (take n xs) ys)

-- where traps count, the place holds the value of the expression
abbrev pub Reckons : ℕ → List ℤ → ℕ → ℕ → Term → List Instruction → ℕ → Type 0
Reckons n stated counts base t line place =
    (place ≤ base)
    × Leads n stated counts base line (λ names ys. value_of t names ≡ Ok (number_at ys place))

-- the place always holds the value of the expression, which has one
abbrev pub Gives : ℕ → List ℤ → ℕ → Term → List Instruction → ℕ → Type 0
Gives n stated base t line place =
    (place ≤ base)
    × ((xs ys : List ℤ) → IsRoom n stated xs → Runs line xs ys
    → (take base ys ≡ take base xs) × (length ys ≡ 256)
    × (value_of t (take n xs) ≡ Ok (number_at ys place)))

-- where traps count, the place holds what the function gives of its arguments
abbrev pub ReckonsCall : ℕ → List ℤ → ℕ → ℕ → Func → List Term → List Instruction → ℕ → Type 0
ReckonsCall n stated counts base f parts line place =
    (place ≤ base)
    × Leads n stated counts base line
    (λ names ys.
    (at : Span) → then_with (values parts names) (called f at) ≡ Ok (number_at ys place))

-- the instructions put the value of the expression at a place, where it is in the range; beside it
-- they change only places behind all names and stated numbers
abbrev pub Bounds : ℕ → List ℤ → Term → ℤ → ℤ → ℕ → List Instruction → Type 0
Bounds n stated t lo hi to line =
    (xs ys : List ℤ) → IsRoom n stated xs → Runs line xs ys
    → (ms : List ℤ) × (x z : ℤ)
    × (take (n + length stated) ms ≡ take (n + length stated) xs) × (length ms ≡ 256)
    × (value_of t (take n xs) ≡ Ok x)
    × ((at : Span) → within (record { lo = lo; hi = hi }) at x ≡ Ok z)
    × (ys ≡ slice_set ms to z)
