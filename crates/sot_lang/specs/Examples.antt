-- Worked values of expressions, as statements that `values_are_as_stated` proves.
use Rattle.std.specs.Prelude.{◌≡◌, ℕ, ℤ, pos, neg_ℤ, Ok, [], ◌∷◌, ◌^◌, ◌-◌}
use Rattle.std.proofs.Common.{refl}
use Rattle.std.specs.Global.{Global}
use Rattle.sot_text.specs.declared.token.Span.{Span}
use Rattle.sot_lang.specs.declared.trap.TrapKind.TheVariants.{ZeroDivisor, Wide}
use Rattle.sot_syntax_tree.specs.declared.operator.Op.{Op}
use Rattle.sot_syntax_tree.specs.declared.operator.Op.TheVariants.{Add, Sub, Mul, Div, Less}
use Rattle.sot_syntax_tree.specs.declared.operator.Op.TheVariants.{LessEqual}
use Rattle.sot_syntax_tree.specs.declared.operator.Op.TheVariants.{Greater, GreaterEqual, Equal}
use Rattle.sot_syntax_tree.specs.declared.operator.Op.TheVariants.{NotEqual}
use Rattle.sot_syntax_tree.specs.declared.operator.Op.TheVariants.{And, Or}
use Rattle.sot_syntax_tree.specs.declared.operator.Func.TheVariants.{Min, Max, Abs, Clamp}
use Rattle.sot_lang.specs.declared.term.Term.{Term, Call}
use Rattle.sot_lang.specs.declared.term.Term.TheVariants.{Number, Place, Binary', Rest', Neg', Not'}
use Rattle.sot_lang.specs.declared.term.Term.TheVariants.{Rescale', If'}
use Rattle.sot_lang.specs.Values.{value_of, apply, called, rescaled, trap}
use Rattle.sot_lang.specs.Line.{somewhere, boxed, vec}

-- the number below 0 with this magnitude
abbrev pub minus : ℕ → ℤ
minus n = neg_ℤ (pos n)

-- another place in the text
abbrev pub elsewhere : Span
elsewhere = record { line = 2; column = 3 }

-- the operator at two numbers
abbrev pub gives : Op → ℤ → ℤ → ℤ → Type 0
gives op a b z = apply op somewhere a b ≡ Ok z

-- the operator at two numbers is wide
abbrev pub is_wide : Op → ℤ → ℤ → Type 0
is_wide op a b = apply op somewhere a b ≡ trap somewhere Wide

-- a quotient is rounded down, whatever the signs
abbrev pub QuotientsAreFloors : Type 0
QuotientsAreFloors =
    gives Div (pos 7) (pos 2) (pos 3) × gives Div (minus 7) (pos 2) (minus 4)
    × gives Div (pos 7) (minus 2) (minus 4)
    × gives Div (minus 7) (minus 2) (pos 3) × gives Div (minus 6) (pos 2) (minus 3)
    × gives Div (minus 1) (pos 9) (minus 1)

-- a divisor of 0 is a trap, also of 0 itself
abbrev pub ZeroDivides : Type 0
ZeroDivides =
    (apply Div somewhere (pos 0) (pos 0) ≡ trap somewhere ZeroDivisor)
    × (apply Div somewhere (minus (2 ^ 63)) (pos 0) ≡ trap somewhere ZeroDivisor)

-- results are in 64 bits: from -2^63 to 2^63 - 1
abbrev pub WideResultsTrap : Type 0
WideResultsTrap =
    gives Add (pos (2 ^ 63 - 2)) (pos 1) (pos (2 ^ 63 - 1)) × is_wide Add (pos (2 ^ 63 - 1)) (pos 1)
    × gives Sub (minus (2 ^ 63 - 1)) (pos 1) (minus (2 ^ 63)) × is_wide Sub (minus (2 ^ 63)) (pos 1)
    × gives Mul (pos (2 ^ 31)) (minus (2 ^ 32)) (minus (2 ^ 63))
    × is_wide Mul (pos (2 ^ 31)) (pos (2 ^ 32)) × is_wide Mul (pos (2 ^ 32)) (pos (2 ^ 32))
    × is_wide Div (minus (2 ^ 63)) (minus 1) × gives Div (minus (2 ^ 63)) (pos 1) (minus (2 ^ 63))

-- comparisons at less, equal and greater
abbrev pub Comparisons : Type 0
Comparisons =
    gives Less (minus 1) (pos 0) (pos 1) × gives Less (pos 3) (pos 3) (pos 0)
    × gives LessEqual (pos 3) (pos 3) (pos 1) × gives LessEqual (pos 4) (pos 3) (pos 0)
    × gives Greater (pos 0) (minus 1) (pos 1) × gives Greater (pos 3) (pos 3) (pos 0)
    × gives GreaterEqual (pos 3) (pos 3) (pos 1) × gives GreaterEqual (pos 2) (pos 3) (pos 0)
    × gives Equal (pos 3) (pos 3) (pos 1) × gives Equal (pos 3) (minus 3) (pos 0)
    × gives NotEqual (pos 3) (minus 3) (pos 1) × gives NotEqual (pos 3) (pos 3) (pos 0)

-- `and` and `or` at all truth values
abbrev pub TruthTables : Type 0
TruthTables =
    gives And (pos 1) (pos 1) (pos 1) × gives And (pos 1) (pos 0) (pos 0)
    × gives And (pos 0) (pos 1) (pos 0) × gives And (pos 0) (pos 0) (pos 0)
    × gives Or (pos 1) (pos 1) (pos 1) × gives Or (pos 1) (pos 0) (pos 1)
    × gives Or (pos 0) (pos 1) (pos 1) × gives Or (pos 0) (pos 0) (pos 0)

-- `clamp(a, l, h)` is l where l is above h
abbrev pub Functions : Type 0
Functions =
    (called Min somewhere (pos 2 ∷ minus 3 ∷ []) ≡ Ok (minus 3))
    × (called Max somewhere (pos 2 ∷ minus 3 ∷ []) ≡ Ok (pos 2))
    × (called Abs somewhere (minus 3 ∷ []) ≡ Ok (pos 3))
    × (called Abs somewhere (minus (2 ^ 63) ∷ []) ≡ trap somewhere Wide)
    × (called Clamp somewhere (pos 5 ∷ pos 0 ∷ pos 2 ∷ []) ≡ Ok (pos 2))
    × (called Clamp somewhere (minus 5 ∷ pos 0 ∷ pos 2 ∷ []) ≡ Ok (pos 0))
    × (called Clamp somewhere (pos 1 ∷ pos 0 ∷ pos 2 ∷ []) ≡ Ok (pos 1))
    × (called Clamp somewhere (pos 5 ∷ pos 9 ∷ pos 2 ∷ []) ≡ Ok (pos 9))

-- fewer decimals round down, more multiply
abbrev pub Rescales : Type 0
Rescales =
    (rescaled somewhere 2 0 (minus 1) ≡ Ok (minus 1))
    × (rescaled somewhere 2 0 (pos 199) ≡ Ok (pos 1))
    × (rescaled somewhere 0 2 (minus 1) ≡ Ok (minus 100))
    × (rescaled somewhere 3 3 (minus 7) ≡ Ok (minus 7))
    × (rescaled somewhere 0 6 (pos (2 ^ 62)) ≡ trap somewhere Wide)

module _ (g : Global) where
  -- a number times itself that is wide, and a quotient by 0 elsewhere
  abbrev pub wide_here : Term
  wide_here = Binary' Mul (boxed g) (Number (pos (2 ^ 62))) (boxed g) (Number (pos 2)) somewhere

  abbrev pub zero_there : Term
  zero_there = Binary' Div (boxed g) (Number (pos 1)) (boxed g) (Number (pos 0)) elsewhere

  -- operands from the left: of two traps the left one is met; `and` and `or` look at both sides
  abbrev pub OperandsFromTheLeft : Type 0
  OperandsFromTheLeft =
      (value_of (Binary' Add (boxed g) wide_here (boxed g) zero_there somewhere) []
      ≡ trap somewhere Wide)
      × (value_of (Binary' Add (boxed g) zero_there (boxed g) wide_here somewhere) []
      ≡ trap elsewhere ZeroDivisor)
      × (value_of (Binary' Sub (boxed g) (Number (pos 7)) (boxed g) (Number (pos 9)) somewhere) []
      ≡ Ok (minus 2))
      × (value_of (Binary' And (boxed g) (Number (pos 0)) (boxed g) zero_there somewhere) []
      ≡ trap elsewhere ZeroDivisor)
      × (value_of (Binary' Or (boxed g) (Number (pos 1)) (boxed g) zero_there somewhere) []
      ≡ trap elsewhere ZeroDivisor)

  -- an `if` takes one branch, after its condition
  abbrev pub OneBranch : Type 0
  OneBranch =
      (value_of (If' (boxed g) (Number (pos 0)) (boxed g) zero_there (boxed g) (Number (pos 4))
      somewhere) [] ≡ Ok (pos 4))
      × (value_of (If' (boxed g) (Number (pos 1)) (boxed g) (Number (pos 3)) (boxed g) zero_there
      somewhere) [] ≡ Ok (pos 3))
      × (value_of (If' (boxed g) wide_here (boxed g) zero_there (boxed g) zero_there somewhere) []
      ≡ trap somewhere Wide)

  -- -7 % 2 is 1; -(-2^63) is wide; `not`; a name has its number
  abbrev pub OtherExpressions : Type 0
  OtherExpressions =
      (value_of (Rest' (boxed g) (Number (minus 7)) (pos 2) somewhere) [] ≡ Ok (pos 1))
      × (value_of (Rest' (boxed g) (Number (pos 7)) (pos 2) somewhere) [] ≡ Ok (pos 1))
      × (value_of (Rest' (boxed g) (Number (minus 6)) (pos 3) somewhere) [] ≡ Ok (pos 0))
      × (value_of (Neg' (boxed g) (Number (minus 5)) somewhere) [] ≡ Ok (pos 5))
      × (value_of (Neg' (boxed g) (Number (minus (2 ^ 63))) somewhere) [] ≡ trap somewhere Wide)
      × (value_of (Not' (boxed g) (Number (pos 0)) somewhere) [] ≡ Ok (pos 1))
      × (value_of (Not' (boxed g) (Number (pos 1)) somewhere) [] ≡ Ok (pos 0))
      × (value_of (Rescale' (boxed g) (Place 1) 1 0 somewhere) (pos 4 ∷ minus 15 ∷ [])
      ≡ Ok (minus 2))

  -- the parts of a call from the left: of two traps the earlier one is met; a clamp of 5 between 9
  -- and 2 is 9, and of 1 between 0 and 2 is 1
  abbrev pub Calls : Type 0
  Calls =
      (value_of (Call Min (vec g (wide_here ∷ zero_there ∷ []) refl) somewhere) []
      ≡ trap somewhere Wide)
      × (value_of (Call Min (vec g (zero_there ∷ wide_here ∷ []) refl) somewhere) []
      ≡ trap elsewhere ZeroDivisor)
      × (value_of (Call Clamp (vec g (Number (pos 5) ∷ Number (pos 9) ∷ Number (pos 2) ∷ []) refl)
      somewhere) [] ≡ Ok (pos 9))
      × (value_of (Call Clamp (vec g (Place 1 ∷ Place 0 ∷ Place 2 ∷ []) refl) somewhere)
      (pos 0 ∷ pos 1 ∷ pos 2 ∷ []) ≡ Ok (pos 1))
