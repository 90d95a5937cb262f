-- Worked evaluations: expressions with conditions, the order of traps, statements, and a node over
-- its declared ranges.
use Rattle.std.specs.Prelude.{pos, negsuc, List, [], ◌∷◌, Ok, Err}
use Rattle.std.proofs.Common.{refl}
use Rattle.std.specs.Global.{Vec, Global}
use Rattle.sot_text.specs.declared.token.Span.{Span}
use Rattle.sot_syntax_tree.specs.declared.operator.Op.TheVariants.{Add, Div, Less}
use Rattle.sot_lang.specs.declared.term.Term.{Term}
use Rattle.sot_lang.specs.declared.term.Term.TheVariants.{Number, Place, Binary', If'}
use Rattle.sot_lang.specs.declared.act.Act.{Act, If}
use Rattle.sot_lang.specs.declared.act.Act.TheVariants.{Assign, Publish}
use Rattle.sot_lang.specs.declared.trap.TrapKind.TheVariants.{ZeroDivisor, OutsideRange}
use Rattle.sot_lang.specs.Line.{somewhere, vec, boxed, line, slow, slow_acts}
use Rattle.sot_lang.specs.Examples.{elsewhere}
use Rattle.sot_iv.specs.declared.drafted.Drafted.TheVariants.{Maybe, Sure}
use Rattle.sot_iv.specs.TermIntervals.{IsTermInterval}
use Rattle.sot_iv.specs.BodyIntervals.{IsExecutionIntervals}
use Rattle.sot_iv.specs.NodeIntervals.{IsNodeIntervals}
use Rattle.sot_iv.specs.Examples.{from_to}

module _ (g : Global) where
  -- x < 5
  abbrev pub below_five : Term
  below_five = Binary' Less (boxed g) (Place 0) (boxed g) (Number (pos 5)) somewhere

  -- if x < 5 then 1 else 9
  abbrev pub one_or_nine : Term
  one_or_nine =
      If' (boxed g) below_five (boxed g) (Number (pos 1)) (boxed g) (Number (pos 9)) somewhere

  -- for x in [0..4] it is 1, in [5..7] 9, and in [0..9], where the condition is undecided, [1..9]
  abbrev pub Conditions : Type 0
  Conditions =
      IsTermInterval one_or_nine (from_to (pos 0) (pos 4) ∷ []) (Ok (from_to (pos 1) (pos 1)))
      × IsTermInterval one_or_nine (from_to (pos 5) (pos 7) ∷ []) (Ok (from_to (pos 9) (pos 9)))
      × IsTermInterval one_or_nine (from_to (pos 0) (pos 9) ∷ []) (Ok (from_to (pos 1) (pos 9)))

  -- 10 / x, at this place in the text
  abbrev pub ten_by : Span → Term
  ten_by at = Binary' Div (boxed g) (Number (pos 10)) (boxed g) (Place 0) at

  -- of two operands that may trap the left one's trap is given, and of two branches the first
  -- one's; a branch that is not taken gives none
  abbrev pub FirstTraps : Type 0
  FirstTraps =
      IsTermInterval (Binary' Add (boxed g) (ten_by elsewhere) (boxed g) (ten_by somewhere)
      somewhere) (from_to (pos 0) (pos 5) ∷ [])
      (Err (record { at = elsewhere; kind = ZeroDivisor; lo = pos 0; hi = pos 5 }))
      × IsTermInterval (If' (boxed g) below_five (boxed g) (ten_by elsewhere) (boxed g)
      (ten_by somewhere) somewhere) (from_to (pos 0) (pos 5) ∷ [])
      (Err (record { at = elsewhere; kind = ZeroDivisor; lo = pos 0; hi = pos 5 }))
      × IsTermInterval (If' (boxed g) below_five (boxed g) (Number (pos 1)) (boxed g)
      (ten_by somewhere) somewhere) (from_to (pos 0) (pos 4) ∷ []) (Ok (from_to (pos 1) (pos 1)))

  -- if x < 5 { local = 1; publish 3, 4; } else { publish 7; }
  abbrev pub first_branch : Vec Act
  first_branch =
      vec g (Assign 0 (Number (pos 1)) somewhere ∷ Publish 0 (Number (pos 3)) somewhere ∷ Publish 1
      (Number (pos 4)) somewhere ∷ []) refl

  abbrev pub second_branch : Vec Act
  second_branch = vec g (Publish 0 (Number (pos 7)) somewhere ∷ []) refl

  abbrev pub branches : List Act
  branches = If below_five first_branch second_branch ∷ []

  -- with x in [0..9] the local, which was 5, is in [1..5]; the first scalar is surely in [3..7],
  -- and the second perhaps 4
  abbrev pub Branches : Type 0
  Branches =
      IsExecutionIntervals branches (from_to (pos 0) (pos 9) ∷ [])
      (from_to (pos 0) (pos 9) ∷ from_to (pos 0) (pos 9) ∷ []) (from_to (pos 0) (pos 9) ∷ [])
      (from_to (pos 5) (pos 5) ∷ [])
      (Ok (record {
        locals = from_to (pos 1) (pos 5) ∷ [];
        draft = Sure (from_to (pos 3) (pos 7)) ∷ Maybe (from_to (pos 4) (pos 4)) ∷ [];
      }))

  -- [0..12] does not fit the range 0..9 of its target: the trap shows the value's interval
  abbrev pub OutsideTarget : Type 0
  OutsideTarget =
      IsExecutionIntervals (Publish 0 (Place 0) elsewhere ∷ []) [] (from_to (pos 0) (pos 9) ∷ [])
      (from_to (pos 0) (pos 12) ∷ []) []
      (Err (record { at = elsewhere; kind = OutsideRange; lo = pos 0; hi = pos 12 }))

  -- the safe node of the running example, with its plant in [-40..40], surely drafts a command in
  -- [-2..2]
  abbrev pub SlowOverItsRanges : Type 0
  SlowOverItsRanges =
      IsNodeIntervals (line g) (slow g) (slow_acts g) ((from_to (negsuc 39) (pos 40) ∷ []) ∷ [])
      (record { locals = []; draft = Sure (from_to (negsuc 1) (pos 2)) ∷ [] })

-- a fact holds for every allocator
abbrev pub ForEach : (Global → Type 0) → Type 0
ForEach fact = (g : Global) → fact g
