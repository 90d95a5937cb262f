-- What an expression means, over unbounded whole numbers.
use Rattle.std.specs.Prelude.{ℕ, zero, suc, ◌-◌, ◌/◌, ◌^◌, ℤ, pos, negsuc, ◌+ℤ◌, ◌-ℤ◌, ◌*ℤ◌, neg_ℤ}
use Rattle.std.specs.Prelude.{Bool, true, false, if◌then◌else◌, ◌&&◌, ◌||◌, not, int_lt, int_le}
use Rattle.std.specs.Prelude.{List, [], ◌∷◌, Result, Ok, Err, slice_index_or}
use Rattle.std.specs.Int.{int_min, int_max}
use Rattle.sot_text.specs.declared.token.Span.{Span}
use Rattle.sot_syntax_tree.specs.declared.operator.Op.{Op}
use Rattle.sot_syntax_tree.specs.declared.operator.Op.TheVariants.{Add, Sub, Mul, Div, Less}
use Rattle.sot_syntax_tree.specs.declared.operator.Op.TheVariants.{LessEqual}
use Rattle.sot_syntax_tree.specs.declared.operator.Op.TheVariants.{Greater, GreaterEqual, Equal}
use Rattle.sot_syntax_tree.specs.declared.operator.Op.TheVariants.{NotEqual}
use Rattle.sot_syntax_tree.specs.declared.operator.Op.TheVariants.{And, Or}
use Rattle.sot_syntax_tree.specs.declared.operator.Func.{Func}
use Rattle.sot_syntax_tree.specs.declared.operator.Func.TheVariants.{Min, Max, Abs, Clamp}
use Rattle.sot_lang.specs.declared.term.Term.{Term, Row_of-Term, end_of-Term, more_of-Term}
use Rattle.sot_lang.specs.declared.term.Term.TheVariants.{Number, Place, Binary', Rest', Neg', Not'}
use Rattle.sot_lang.specs.declared.term.Term.TheVariants.{Call', Rescale', If'}
use Rattle.sot_lang.specs.declared.trap.Trap.{Trap}
use Rattle.sot_lang.specs.declared.trap.TrapKind.{TrapKind}
use Rattle.sot_lang.specs.declared.trap.TrapKind.TheVariants.{ZeroDivisor, Wide}

-- an outcome: a value, or the first trap
abbrev pub Outcome : Type 0 → Type 0
Outcome A = Result A Trap

-- the trap of this kind, at this place
abbrev pub trap : {A : Type 0} → Span → TrapKind → Outcome A
trap at kind = Err (record { at = at; kind = kind })

-- z is in 64 bits
abbrev pub is_word : ℤ → Bool
is_word z = int_le (neg_ℤ (pos (2 ^ 63))) z && int_lt z (pos (2 ^ 63))

-- a result that is in 64 bits, else the trap `Wide`
abbrev pub word : Span → ℤ → Outcome ℤ
word at z = if is_word z then Ok z else trap at Wide

-- a truth value as a number: 1 or 0
abbrev pub truth : Bool → ℤ
truth b = if b then pos 1 else pos 0

-- a number other than 0 is true
abbrev pub is_true : ℤ → Bool
is_true (pos zero) = false
is_true (pos (suc n)) = true
is_true (negsuc n) = true

-- the floor of a quotient by a number above 0
abbrev pub floor_by : ℤ → ℕ → ℤ
floor_by (pos a) b = pos (a / b)
floor_by (negsuc a) b = negsuc (a / b)

-- the floor of a quotient
abbrev pub floor_div : ℤ → ℤ → ℤ
floor_div a (pos b) = floor_by a b
floor_div a (negsuc b) = floor_by (neg_ℤ a) (suc b)

-- the floor of a quotient; a divisor of 0 is a trap
abbrev pub quotient : Span → ℤ → ℤ → Outcome ℤ
quotient at a (pos zero) = trap at ZeroDivisor
quotient at a (pos (suc b)) = word at (floor_div a (pos (suc b)))
quotient at a (negsuc b) = word at (floor_div a (negsuc b))

-- the result of an operator at two numbers, computed over unbounded whole numbers and then tested
abbrev pub apply : Op → Span → ℤ → ℤ → Outcome ℤ
apply Add at a b = word at (a +ℤ b)
apply Sub at a b = word at (a -ℤ b)
apply Mul at a b = word at (a *ℤ b)
apply Div at a b = quotient at a b
apply Less at a b = Ok (truth (int_lt a b))
apply LessEqual at a b = Ok (truth (int_le a b))
apply Greater at a b = Ok (truth (int_lt b a))
apply GreaterEqual at a b = Ok (truth (int_le b a))
apply Equal at a b = Ok (truth (int_le a b && int_le b a))
apply NotEqual at a b = Ok (truth (not (int_le a b && int_le b a)))
apply And at a b = Ok (truth (is_true a && is_true b))
apply Or at a b = Ok (truth (is_true a || is_true b))

-- goes on with a value
abbrev pub then_with : {A B : Type 0} → Outcome A → (A → Outcome B) → Outcome B
then_with (Err t) f = Err t
then_with (Ok x) f = f x

-- two operands, the left one first: its trap wins
abbrev pub both : (ℤ → ℤ → Outcome ℤ) → Outcome ℤ → Outcome ℤ → Outcome ℤ
both f (Err t) b = Err t
both f (Ok x) (Err t) = Err t
both f (Ok x) (Ok y) = f x y

-- a condition, and then the one branch that it takes
abbrev pub branch : Outcome ℤ → Outcome ℤ → Outcome ℤ → Outcome ℤ
branch (Err t) first second = Err t
branch (Ok x) first second = if is_true x then first else second

-- a list of values in order: the first trap wins
abbrev pub one_more : Outcome ℤ → Outcome (List ℤ) → Outcome (List ℤ)
one_more (Err t) rest = Err t
one_more (Ok x) (Err t) = Err t
one_more (Ok x) (Ok xs) = Ok (x ∷ xs)

-- a number with `from` decimals as one with `to`: multiplied by a power of ten, or divided and
-- rounded down; one of the two powers is 1
abbrev pub rescaled : Span → ℕ → ℕ → ℤ → Outcome ℤ
rescaled at from to a = word at (floor_by (a *ℤ pos (10 ^ (to - from))) (10 ^ (from - to)))

-- the result of a function at its parts. Tables hold no call with another count of parts, so the
-- last line is never met
abbrev pub called : Func → Span → List ℤ → Outcome ℤ
called Min at (a ∷ b ∷ []) = Ok (int_min a b)
called Max at (a ∷ b ∷ []) = Ok (int_max a b)
called Abs at (a ∷ []) = word at (int_max a (neg_ℤ a))
called Clamp at (a ∷ l ∷ h ∷ []) = Ok (int_max l (int_min a h))
called _ at _ = Ok (pos 0)

-- the value of an expression, where each name has its number in the list
abbrev mutual
  pub value_of : Term → List ℤ → Outcome ℤ
  value_of (Number z) env = Ok z
  value_of (Place n) env = Ok (slice_index_or env n (pos 0))
  value_of (Binary' op p a q b at) env = both (apply op at) (value_of a env) (value_of b env)
  value_of (Rest' p a by at) env =
      then_with (value_of a env) (λ x. Ok (x -ℤ (by *ℤ floor_div x by)))
  value_of (Neg' p a at) env = then_with (value_of a env) (λ x. word at (neg_ℤ x))
  value_of (Not' p a at) env = then_with (value_of a env) (λ x. Ok (truth (not (is_true x))))
  value_of (Call' f shape parts at) env = then_with (values_of_parts parts env) (called f at)
  value_of (Rescale' p a from to at) env = then_with (value_of a env) (rescaled at from to)
  value_of (If' p c q a r b at) env = branch (value_of c env) (value_of a env) (value_of b env)

  -- the values of a call's parts, in order
  pub values_of_parts : {m : _} → Row_of-Term m → List ℤ → Outcome (List ℤ)
  values_of_parts end_of-Term env = Ok []
  values_of_parts (more_of-Term t rest) env = one_more (value_of t env) (values_of_parts rest env)
