-- Least intervals of expressions.
use Rattle.std.specs.Prelude.{ℕ, ◌-◌, ◌^◌, ℤ, pos, ◌+ℤ◌, ◌-ℤ◌, ◌*ℤ◌, neg_ℤ, Bool, true, false, ◌&&◌}
use Rattle.std.specs.Prelude.{◌||◌, not, int_lt, int_le, List, [], ◌∷◌, Result, Ok, Err}
use Rattle.std.specs.Prelude.{slice_index_or, ◌≡◌, ◌⊎◌}
use Rattle.std.specs.Int.{int_min, int_max}
pub use Rattle.sot_iv.specs.declared.may_trap.MayTrap.{MayTrap}
use Rattle.sot_text.specs.declared.token.Span.{Span}
use Rattle.sot_syntax_tree.specs.declared.operator.Op.{Op}
use Rattle.sot_syntax_tree.specs.declared.operator.Op.TheVariants.{Add, Sub, Mul, Div, Less}
use Rattle.sot_syntax_tree.specs.declared.operator.Op.TheVariants.{LessEqual}
use Rattle.sot_syntax_tree.specs.declared.operator.Op.TheVariants.{Greater, GreaterEqual, Equal}
use Rattle.sot_syntax_tree.specs.declared.operator.Op.TheVariants.{NotEqual}
use Rattle.sot_syntax_tree.specs.declared.operator.Op.TheVariants.{And, Or}
use Rattle.sot_syntax_tree.specs.declared.operator.Func.{Func}
use Rattle.sot_syntax_tree.specs.declared.operator.Func.TheVariants.{Min, Max, Abs, Clamp}
use Rattle.sot_lang.specs.declared.term.Term.{Term, Row_of-Term, end_of-Term, more_of-Term}
use Rattle.sot_lang.specs.declared.term.Term.TheVariants.{Number, Place, Binary', Rest', Neg', Not'}
use Rattle.sot_lang.specs.declared.term.Term.TheVariants.{Call', Rescale', If'}
use Rattle.sot_lang.specs.declared.trap.TrapKind.TheVariants.{ZeroDivisor, Wide}
use Rattle.sot_box.specs.Sides.{Side, IsIn}
use Rattle.sot_box.specs.Boxes.{IsWithin}
use Rattle.sot_lang.specs.Values.{is_word, truth, is_true, floor_by, floor_div}

-- an interval evaluation gives a value, or the first operands of which some trap
abbrev pub OrMayTrap : Type 0 → Type 0
OrMayTrap A = Result A MayTrap

-- the smallest interval that holds every number of a set: it holds each, and its ends are among
-- them
pub record IsLeast (set : ℤ → Type 0) (r : Side) : Type 0 where
  pub holds : (z : ℤ) → set z → IsIn r z
  pub low : set r.lo
  pub high : set r.hi

-- the result of an operator over whole numbers without bound, where the divisor is not 0
abbrev pub result : Op → ℤ → ℤ → ℤ
result Add a b = a +ℤ b
result Sub a b = a -ℤ b
result Mul a b = a *ℤ b
result Div a b = floor_div a b
result Less a b = truth (int_lt a b)
result LessEqual a b = truth (int_le a b)
result Greater a b = truth (int_lt b a)
result GreaterEqual a b = truth (int_le b a)
result Equal a b = truth (int_le a b && int_le b a)
result NotEqual a b = truth (not (int_le a b && int_le b a))
result And a b = truth (is_true a && is_true b)
result Or a b = truth (is_true a || is_true b)

-- z is a result over operands from two intervals
pub record IsResult (op : Op) (x y : Side) (z : ℤ) : Type 0 where
  pub a : ℤ
  pub b : ℤ
  pub a_in : IsIn x a
  pub b_in : IsIn y b
  pub is : z ≡ result op a b

-- 0 is among the divisors
abbrev pub MayDivideByZero : Op → Side → Type 0
MayDivideByZero Div y = IsIn y (pos 0)
MayDivideByZero _ y = ⊥

-- every number of the interval is in 64 bits
abbrev pub IsWordRange : Side → Type 0
IsWordRange r = (is_word r.lo ≡ true) × (is_word r.hi ≡ true)

-- r where it is in 64 bits, and else the trap of a wide result, which shows r
abbrev pub IsFitted : Span → Side → OrMayTrap Side → Type 0
IsFitted at r (Ok s) = (s ≡ r) × IsWordRange r
IsFitted at r (Err t) =
    (IsWordRange r → ⊥) × (t ≡ record { at = at; kind = Wide; lo = r.lo; hi = r.hi })

-- the smallest interval that holds every result of an operator over two intervals, where no
-- operands trap; else the trap: of a divisor 0, which shows the divisors, before that of a wide
-- result
abbrev pub IsLeastResult : Op → Span → Side → Side → OrMayTrap Side → Type 0
IsLeastResult op at x y o =
    (MayDivideByZero op y × (o ≡ Err (record
    { at = at; kind = ZeroDivisor; lo = y.lo; hi = y.hi })))
    ⊎ ((MayDivideByZero op y → ⊥) × ((r : Side) × IsLeast (IsResult op x y) r × IsFitted at r o))

-- a condition in this interval can have this truth value
abbrev pub CanBe : Bool → Side → Type 0
CanBe b x = (z : ℤ) × IsIn x z × (is_true z ≡ b)

-- what holds of a condition's branches: of the first where it can only be true, of the second where
-- it can only be false, and of both together where it is undecided
abbrev pub Chooses : Side → Type 0 → Type 0 → Type 0 → Type 0
Chooses x first second both =
    (CanBe true x × (CanBe false x → ⊥) × first)
    ⊎ (CanBe false x × (CanBe true x → ⊥) × second)
    ⊎ (CanBe false x × CanBe true x × both)

-- the hull of two intervals: the smallest one that holds the numbers of both
abbrev pub IsIntervalHull : Side → Side → Side → Type 0
IsIntervalHull a b r = IsLeast (λ z. IsIn a z ⊎ IsIn b z) r

-- one more interval before others, where those have no trap
abbrev pub consed : Side → OrMayTrap (List Side) → OrMayTrap (List Side)
consed x (Err t) = Err t
consed x (Ok xs) = Ok (x ∷ xs)

-- goes on with a value, or stops with its trap
abbrev pub After : {A B : Type 0} → OrMayTrap A → OrMayTrap B → (A → Type 0) → Type 0
After (Err t) o go = o ≡ Err t
After (Ok x) o go = go x

-- the smallest interval that holds every result of a function over numbers in these intervals, or
-- the trap of a wide result
abbrev pub IsImage : (List ℤ → ℤ) → Span → List Side → OrMayTrap Side → Type 0
IsImage f at xs o =
    (r : Side) × IsLeast (λ z. (as' : List ℤ) × IsWithin xs as' × (z ≡ f as')) r × IsFitted at r o

-- the first of some numbers
abbrev pub first_of : List ℤ → ℤ
first_of [] = pos 0
first_of (x ∷ xs) = x

-- the results over whole numbers of a rest, a negation, a truth value's denial and a change of
-- scale
abbrev pub rest_result : ℤ → List ℤ → ℤ
rest_result by zs = first_of zs -ℤ (by *ℤ floor_div (first_of zs) by)

abbrev pub neg_result : List ℤ → ℤ
neg_result zs = neg_ℤ (first_of zs)

abbrev pub not_result : List ℤ → ℤ
not_result zs = truth (not (is_true (first_of zs)))

abbrev pub rescale_result : ℕ → ℕ → List ℤ → ℤ
rescale_result from to zs = floor_by (first_of zs *ℤ pos (10 ^ (to - from))) (10 ^ (from - to))

-- the result of a function over whole numbers
abbrev pub called_result : Func → List ℤ → ℤ
called_result Min (a ∷ b ∷ []) = int_min a b
called_result Max (a ∷ b ∷ []) = int_max a b
called_result Abs (a ∷ []) = int_max a (neg_ℤ a)
called_result Clamp (a ∷ l ∷ h ∷ []) = int_max l (int_min a h)
called_result _ _ = pos 0

-- one more answer before others; its trap comes first
abbrev pub Joins : OrMayTrap Side → (OrMayTrap (List Side) → Type 0) → OrMayTrap (List Side)
    → Type 0
Joins (Err t) rest o = o ≡ Err t
Joins (Ok x) rest o = (os : OrMayTrap (List Side)) × rest os × (o ≡ consed x os)

-- the least interval of an expression over the ranges of its names, operator by operator, or the
-- first operands of which some trap. Operands are met from the left; a condition narrows no range
abbrev mutual
  pub IsTermInterval : Term → List Side → OrMayTrap Side → Type 0
  IsTermInterval (Number z) rs o = o ≡ Ok (record { lo = z; hi = z })
  IsTermInterval (Place n) rs o = o ≡ Ok (slice_index_or rs n (record { lo = pos 0; hi = pos 0 }))
  IsTermInterval (Binary' op p a q b at) rs o =
      (x : OrMayTrap Side) × IsTermInterval a rs x
      × After x o (λ x. (y : OrMayTrap Side) × IsTermInterval b rs y
      × After y o (λ y. IsLeastResult op at x y o))
  IsTermInterval (Rest' p a by at) rs o =
      (x : OrMayTrap Side) × IsTermInterval a rs x
      × After x o (λ x. IsImage (rest_result by) at (x ∷ []) o)
  IsTermInterval (Neg' p a at) rs o =
      (x : OrMayTrap Side) × IsTermInterval a rs x
      × After x o (λ x. IsImage neg_result at (x ∷ []) o)
  IsTermInterval (Not' p a at) rs o =
      (x : OrMayTrap Side) × IsTermInterval a rs x
      × After x o (λ x. IsImage not_result at (x ∷ []) o)
  IsTermInterval (Call' f shape parts at) rs o =
      (xs : OrMayTrap (List Side)) × ArePartIntervals parts rs xs
      × After xs o (λ xs. IsImage (called_result f) at xs o)
  IsTermInterval (Rescale' p a from to at) rs o =
      (x : OrMayTrap Side) × IsTermInterval a rs x
      × After x o (λ x. IsImage (rescale_result from to) at (x ∷ []) o)
  IsTermInterval (If' p c q a r b at) rs o =
      (x : OrMayTrap Side) × IsTermInterval c rs x × After x o (λ x. Chooses x
      (IsTermInterval a rs o)
      (IsTermInterval b rs o)
      ((y : OrMayTrap Side) × IsTermInterval a rs y
      × After y o (λ y. (z : OrMayTrap Side) × IsTermInterval b rs z
      × After z o (λ z. (r : Side) × IsIntervalHull y z r × (o ≡ Ok r)))))

  -- the parts of a call, from the left
  pub ArePartIntervals : {m : _} → Row_of-Term m → List Side → OrMayTrap (List Side) → Type 0
  ArePartIntervals end_of-Term rs o = o ≡ Ok []
  ArePartIntervals (more_of-Term t rest) rs o =
      (x : OrMayTrap Side) × IsTermInterval t rs x × Joins x (λ os. ArePartIntervals rest rs os) o

-- the least intervals of a list of expressions, from the first on
abbrev pub AreTermIntervals : List Term → List Side → OrMayTrap (List Side) → Type 0
AreTermIntervals [] rs o = o ≡ Ok []
AreTermIntervals (t ∷ ts) rs o =
    (x : OrMayTrap Side) × IsTermInterval t rs x × Joins x (λ os. AreTermIntervals ts rs os) o
