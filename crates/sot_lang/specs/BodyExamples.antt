-- Worked firings and ticks, as statements that `firings_are_as_stated` proves.
use Rattle.std.specs.Prelude.{◌≡◌, ℕ, ℤ, pos, Ok, Some, None, [], ◌∷◌}
use Rattle.std.proofs.Common.{refl}
use Rattle.std.specs.Global.{Vec, Global}
use Rattle.sot_box.specs.Sides.{Side}
use Rattle.sot_lang.specs.declared.trap.TrapKind.TheVariants.{ZeroDivisor, OutsideRange}
use Rattle.sot_syntax_tree.specs.declared.operator.Op.TheVariants.{Add}
use Rattle.sot_lang.specs.declared.term.Term.{Term}
use Rattle.sot_lang.specs.declared.term.Term.TheVariants.{Number, Place, Binary'}
use Rattle.sot_lang.specs.declared.act.Act.{If, Repeat}
use Rattle.sot_lang.specs.declared.act.Act.TheVariants.{Assign, Publish}
use Rattle.sot_lang.specs.declared.tables.Slot.TheVariants.{Scalar, State}
use Rattle.sot_lang.specs.declared.tables.PlantInfo.{PlantInfo}
use Rattle.sot_lang.specs.declared.tables.NodeInfo.{NodeInfo}
use Rattle.sot_lang.specs.Values.{trap}
use Rattle.sot_lang.specs.Bodies.{execution}
use Rattle.sot_lang.specs.Ticks.{next_state}
use Rattle.sot_lang.specs.Ranges.{local_ranges, write_ranges}
use Rattle.sot_lang.specs.Readings.{reading}
use Rattle.sot_lang.specs.Reach.{AnyReach, HeldReach}
use Rattle.sot_lang.specs.Line.{somewhere, side, vec, boxed, line, slow, slow_acts, pos_plant}
use Rattle.sot_lang.specs.Examples.{minus, elsewhere, zero_there, wide_here}

-- the range 0..9
abbrev pub digit : Side
digit = side (pos 0) (pos 9)

module _ (g : Global) where
  -- one more than the number at place k
  abbrev pub one_more_than : ℕ → Term
  one_more_than k = Binary' Add (boxed g) (Place k) (boxed g) (Number (pos 1)) somewhere

  -- a later draft replaces an earlier one, and no other scalar is drafted
  abbrev pub LaterDrafts : Type 0
  LaterDrafts =
      execution (Publish 1 (Number (pos 1)) somewhere ∷ Publish 1 (Number (pos 2)) somewhere ∷ [])
      [] (digit ∷ digit ∷ digit ∷ []) [] []
      ≡ Ok (record { locals = []; draft = None ∷ Some (pos 2) ∷ None ∷ [] })

  -- an assignment is what the next statement reads, behind the numbers that are read; other locals
  -- stay
  abbrev pub AssignmentsAreRead : Type 0
  AssignmentsAreRead =
      execution (Assign 1 (Binary' Add (boxed g) (Place 0) (boxed g) (Place 2) somewhere) somewhere
      ∷ Publish 0 (Place 2) somewhere ∷ [])
      (digit ∷ digit ∷ []) (digit ∷ []) (pos 3 ∷ []) (pos 1 ∷ pos 4 ∷ [])
      ≡ Ok (record { locals = pos 1 ∷ pos 7 ∷ []; draft = Some (pos 7) ∷ [] })

  -- the ends of a range are inside; one more, and one less, is a trap at the target, for locals and
  -- for drafts
  abbrev pub OutsideIsATrap : Type 0
  OutsideIsATrap =
      (execution (Publish 0 (Number (pos 9)) elsewhere ∷ []) [] (digit ∷ []) [] []
      ≡ Ok (record { locals = []; draft = Some (pos 9) ∷ [] }))
      × (execution (Publish 0 (Number (pos 10)) elsewhere ∷ []) [] (digit ∷ []) [] []
      ≡ trap elsewhere OutsideRange)
      × (execution (Assign 0 (Number (pos 0)) elsewhere ∷ []) (digit ∷ []) [] [] (pos 5 ∷ [])
      ≡ Ok (record { locals = pos 0 ∷ []; draft = [] }))
      × (execution (Assign 0 (Number (minus 1)) elsewhere ∷ []) (digit ∷ []) [] [] (pos 5 ∷ [])
      ≡ trap elsewhere OutsideRange)

  -- the first trap ends the body: a value's before its target's, an earlier statement's before a
  -- later one's
  abbrev pub FirstTrap : Type 0
  FirstTrap =
      (execution (Publish 0 (zero_there g) somewhere ∷ Publish 0 (wide_here g) somewhere ∷ []) []
      (digit ∷ []) [] [] ≡ trap elsewhere ZeroDivisor)
      × (execution (Publish 0 (Number (pos 10)) somewhere ∷ Publish 0 (zero_there g) somewhere ∷ [])
      [] (digit ∷ []) [] [] ≡ trap somewhere OutsideRange)

  -- an `if` runs one block, and a `repeat` its block so many times
  abbrev pub Blocks : Type 0
  Blocks =
      (execution (If (Number (pos 1)) (vec g (Publish 0 (Number (pos 1)) somewhere ∷ []) refl)
      (vec g (Publish 1 (Number (pos 2)) somewhere ∷ []) refl) ∷ []) [] (digit ∷ digit ∷ []) [] []
      ≡ Ok (record { locals = []; draft = Some (pos 1) ∷ None ∷ [] }))
      × (execution (If (Number (pos 0)) (vec g (Publish 0 (zero_there g) somewhere ∷ []) refl)
      (vec g (Publish 1 (Number (pos 2)) somewhere ∷ []) refl) ∷ []) [] (digit ∷ digit ∷ []) [] []
      ≡ Ok (record { locals = []; draft = None ∷ Some (pos 2) ∷ [] }))
      × (execution (Repeat 3 (vec g (Assign 0 (one_more_than 0) somewhere ∷ []) refl) ∷ [])
      (digit ∷ []) [] [] (pos 4 ∷ []) ≡ Ok (record { locals = pos 7 ∷ []; draft = [] }))
      × (execution (Repeat 6 (vec g (Assign 0 (one_more_than 0) elsewhere ∷ []) refl) ∷ [])
      (digit ∷ []) [] [] (pos 4 ∷ []) ≡ trap elsewhere OutsideRange)

  -- what `slow` publishes at 12, 10, 0, -10 and -12
  abbrev pub slow_drafts : ℤ → ℤ → Type 0
  slow_drafts x z =
      execution (slow_acts g) (local_ranges (slow g)) (write_ranges (line g) (slow g))
      (reading (slow g) (pos 1 ∷ []) ((x ∷ []) ∷ [])) []
      ≡ Ok (record { locals = []; draft = Some z ∷ [] })

  abbrev pub SlowTurnsBack : Type 0
  SlowTurnsBack =
      slow_drafts (pos 12) (minus 2) × slow_drafts (pos 10) (pos 0) × slow_drafts (pos 0) (pos 0)
      × slow_drafts (minus 10) (pos 0) × slow_drafts (minus 12) (pos 2)

  -- a node reads what it names, in order: scalar 1, variable 1 of plant 0, scalar 0
  abbrev pub some_reader : NodeInfo
  some_reader = record (slow g) { reads = vec g (Scalar 1 ∷ State 0 1 ∷ Scalar 0 ∷ []) refl }

  abbrev pub ReadingsInOrder : Type 0
  ReadingsInOrder =
      reading some_reader (pos 5 ∷ pos 6 ∷ []) ((pos 7 ∷ pos 8 ∷ []) ∷ [])
      ≡ pos 6 ∷ pos 8 ∷ pos 5 ∷ []

  -- a tick of the plant on a line: from 10, with the command 2 and the disturbance 1, to 13
  abbrev pub TickOfTheLine : Type 0
  TickOfTheLine =
      next_state (pos_plant g) (pos 10 ∷ []) (pos 2 ∷ []) [] (pos 1 ∷ []) ≡ Ok (pos 13 ∷ [])

  -- the plant with these next expressions
  abbrev pub with_next : Vec Term → PlantInfo
  with_next terms = record (pos_plant g) { next = terms }

  -- a plant's names: its states, its inputs, the states that it sees, its disturbances
  abbrev pub PlantNamesInOrder : Type 0
  PlantNamesInOrder =
      next_state (with_next (vec g (Place 4 ∷ Place 3 ∷ Place 2 ∷ Place 1 ∷ []) refl)) (pos 1 ∷ [])
      (pos 2 ∷ []) (pos 3 ∷ pos 4 ∷ []) (pos 5 ∷ [])
      ≡ Ok (pos 5 ∷ pos 4 ∷ pos 3 ∷ pos 2 ∷ [])

  -- all next expressions read the state before the tick, and the first that traps decides
  abbrev pub OldStateIsRead : Type 0
  OldStateIsRead =
      (next_state (with_next (vec g (Place 1 ∷ Place 0 ∷ []) refl)) (pos 7 ∷ pos 8 ∷ []) [] [] []
      ≡ Ok (pos 8 ∷ pos 7 ∷ []))
      × (next_state (with_next (vec g (Place 0 ∷ zero_there g ∷ wide_here g ∷ []) refl))
      (pos 7 ∷ []) [] [] [] ≡ trap elsewhere ZeroDivisor)

  -- what the plant on a line comes to: where it is after no tick, 13 from 10 after one, 16 after
  -- two, and 14 not after one
  abbrev pub ReachOfTheLine : Type 0
  ReachOfTheLine =
      HeldReach (line g) (pos_plant g) (pos 10 ∷ []) (pos 2 ∷ []) 1 (Ok (pos 10 ∷ []))
      × HeldReach (line g) (pos_plant g) (pos 10 ∷ []) (pos 2 ∷ []) 2 (Ok (pos 16 ∷ []))
      × AnyReach (line g) (pos_plant g) (pos 10 ∷ []) 1 (Ok (pos 13 ∷ []))
      × (HeldReach (line g) (pos_plant g) (pos 10 ∷ []) (pos 2 ∷ []) 1 (Ok (pos 14 ∷ [])) → ⊥)
      × (HeldReach (line g) (pos_plant g) (pos 10 ∷ []) (pos 0 ∷ []) 1 (Ok (pos 13 ∷ [])) → ⊥)
