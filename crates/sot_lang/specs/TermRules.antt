-- What the expressions of a table satisfy, given which of the names that they may read are truth
-- values.
use Rattle.std.specs.Prelude.{◌≡◌, ◌<◌, ◌≤◌, pos, ◌≤ℤ◌, int_le, ◌&&◌, Bool, true, List, [], ◌∷◌}
use Rattle.std.specs.Prelude.{length, map}
use Rattle.sot_box.specs.Sides.{Side}
use Rattle.sot_lists.specs.Places.{At}
use Rattle.sot_syntax_tree.specs.declared.operator.Op.{Op}
use Rattle.sot_syntax_tree.specs.declared.operator.Op.TheVariants.{Add, Sub, Mul, Div, And, Or}
use Rattle.sot_lang.specs.declared.term.Term.{Term, Row_of-Term, end_of-Term, more_of-Term}
use Rattle.sot_lang.specs.declared.term.Term.{items-the_row-Term}
use Rattle.sot_lang.specs.declared.term.Term.TheVariants.{Number, Place, Binary', Rest', Neg', Not'}
use Rattle.sot_lang.specs.declared.term.Term.TheVariants.{Call', Rescale', If'}
use Rattle.sot_lang.specs.Values.{is_word}
use Rattle.sot_syntax_tree.specs.Functions.{arity}

-- the operator gives a truth value: a comparison, `and`, `or`
abbrev pub GivesTruth : Op → Type 0
GivesTruth Add = ⊥
GivesTruth Sub = ⊥
GivesTruth Mul = ⊥
GivesTruth Div = ⊥
GivesTruth _ = Unit {0}

-- a truth value: 0 or 1, a name that is one, a comparison, `and`, `or` or `not`, or an `if` whose
-- branches are such
abbrev pub IsTruth : List Bool → Term → Type 0
IsTruth truths (Number z) = (pos 0 ≤ℤ z) × (z ≤ℤ pos 1)
IsTruth truths (Place k) = At truths k true
IsTruth truths (Binary' op p a q b at) = GivesTruth op
IsTruth truths (Not' p a at) = Unit {0}
IsTruth truths (If' p c q a r b at) = IsTruth truths a × IsTruth truths b
IsTruth truths _ = ⊥

-- `and` and `or` have truth values as operands
abbrev pub OperandsFit : List Bool → Op → Term → Term → Type 0
OperandsFit truths And a b = IsTruth truths a × IsTruth truths b
OperandsFit truths Or a b = IsTruth truths a × IsTruth truths b
OperandsFit truths _ a b = Unit {0}

-- literals are in 64 bits, each place names something, each call has the parts that its function
-- takes, the divisor of a rest is at least 1, scales are at most 6, and conditions and the operands
-- of `and`, `or` and `not` are truth values
abbrev mutual
  pub TermFits : List Bool → Term → Type 0
  TermFits truths (Number z) = is_word z ≡ true
  TermFits truths (Place k) = k < length truths
  TermFits truths (Binary' op p a q b at) =
      OperandsFit truths op a b × TermFits truths a × TermFits truths b
  TermFits truths (Rest' p a by at) = (pos 1 ≤ℤ by) × TermFits truths a
  TermFits truths (Neg' p a at) = TermFits truths a
  TermFits truths (Not' p a at) = IsTruth truths a × TermFits truths a
  TermFits truths (Call' f shape parts at) =
      (length (items-the_row-Term _ parts) ≡ arity f) × PartsFit truths parts
  TermFits truths (Rescale' p a from to at) = (from ≤ 6) × (to ≤ 6) × TermFits truths a
  TermFits truths (If' p c q a r b at) =
      IsTruth truths c × TermFits truths c × TermFits truths a × TermFits truths b

  -- so does each part of a call
  pub PartsFit : {m : _} → List Bool → Row_of-Term m → Type 0
  PartsFit truths end_of-Term = Unit {0}
  PartsFit truths (more_of-Term t rest) = TermFits truths t × PartsFit truths rest

-- so does each expression of a list
abbrev pub TermsFit : List Bool → List Term → Type 0
TermsFit truths [] = Unit {0}
TermsFit truths (t ∷ ts) = TermFits truths t × TermsFit truths ts

-- a name whose interval lies in 0..1 may stand for a truth value
abbrev pub truths_of : List Side → List Bool
truths_of ranges = map (λ r. int_le (pos 0) r.lo && int_le r.hi (pos 1)) ranges
