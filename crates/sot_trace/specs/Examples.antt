-- Worked traces, written out by hand.
use Rattle.std.specs.Prelude.{◌≡◌, ℕ, ℤ, pos, negsuc, true, false, Option, Some, None, List, []}
use Rattle.std.specs.Prelude.{◌∷◌, ◌++◌, ◌^◌, replicate, codes}
use Rattle.std.proofs.Common.{refl}
use Rattle.std.specs.Global.{Global}
use Rattle.sot_lang.specs.declared.tables.TopicInfo.{TopicInfo}
use Rattle.sot_lang.specs.declared.tables.ScalarInfo.{ScalarInfo}
use Rattle.sot_lang.specs.declared.tables.PlantInfo.{PlantInfo}
use Rattle.sot_lang.specs.declared.tables.NodeInfo.{NodeInfo}
use Rattle.sot_lang.specs.Tables.{Tables}
use Rattle.sot_lang.specs.Line.{line, fast, pos_plant, vec}
use Rattle.sot_world.specs.declared.mode.Mode.TheVariants.{Ac, Sc}
use Rattle.sot_world.specs.HistoryEntry.{Logged, InputAt, FireAt, DecideAt, TickAt}
use Rattle.sot_trace.specs.Numbers.{numeral, signed_numeral}
use Rattle.sot_trace.specs.Lines.{line_of}
use Rattle.sot_trace.specs.Traces.{trace_text}
use Rattle.sot_trace.specs.Words.{AreWords}
use Rattle.sot_trace.specs.Telling.{IsTraced}

-- a draft of one number, and of none
abbrev pub one : ℤ → List (Option ℤ)
one z = Some z ∷ replicate 7 None

abbrev pub none : List (Option ℤ)
none = replicate 8 None

-- the running example's nodes are 0 `fast` and 1 `slow`, both of which write `cmd`
abbrev pub fires : ℕ → ℕ → ℤ → Logged
fires time node z = FireAt time node (one z) true

abbrev pub idles : ℕ → ℕ → ℤ → Logged
idles time node z = FireAt time node (one z) false

-- a tick of the running example
abbrev pub ticks : ℕ → ℤ → ℤ → Logged
ticks time w x = TickAt time (w ∷ []) (x ∷ [])

-- the advanced node drives the plant away, from 0
abbrev pub AwayFromNought : Global → Type 0
AwayFromNought g =
    trace_text (line g) ((pos 0 ∷ []) ∷ [])
    (DecideAt 0 0 Ac ∷ ticks 0 (pos 0) (pos 0) ∷ idles 1 1 (pos 0) ∷ ticks 1 (pos 0) (pos 0) ∷ fires
    2 0 (pos 2) ∷ ticks 2 (pos 0) (pos 2) ∷ [])
    ≡ codes
    "soter trace 1\nstart pos 0\n0 decide nav ac\n0 tick pos(0)=0\n1 idle slow cmd=0\n1 tick pos(0)=0\n2 fire fast cmd=2\n2 tick pos(0)=2\nend 3 events 6 refused 0\n"

-- the safe node turns it back, from 20 and at a time of two digits
abbrev pub back : List Logged
back = DecideAt 12 0 Sc ∷ fires 13 1 (negsuc 1) ∷ ticks 13 (pos 1) (negsuc 18) ∷ []

abbrev pub TurnedBack : Global → Type 0
TurnedBack g =
    trace_text (line g) ((pos 20 ∷ []) ∷ []) back
    ≡ codes
    "soter trace 1\nstart pos 20\n12 decide nav sc\n13 fire slow cmd=-2\n13 tick pos(1)=-19\nend 1 events 3 refused 0\n"

-- a number outside its range is marked and counted
abbrev pub OutsideIsMarked : Global → Type 0
OutsideIsMarked g =
    trace_text (line g) ((pos 0 ∷ []) ∷ [])
    (DecideAt 0 0 Ac ∷ ticks 0 (pos 0) (pos 0) ∷ idles 1 1 (pos 0) ∷ ticks 1 (pos 0) (pos 0) ∷ fires
    2 0 (pos 7) ∷ ticks 2 (pos 0) (pos 0) ∷ [])
    ≡ codes
    "soter trace 1\nstart pos 0\n0 decide nav ac\n0 tick pos(0)=0\n1 idle slow cmd=0\n1 tick pos(0)=0\n2 fire fast cmd!7\n2 tick pos(0)=0\nend 3 events 6 refused 1\n"

-- whether the node is enabled or not; a draft of nothing has no number
abbrev pub MarksOfDrafts : Global → Type 0
MarksOfDrafts g =
    (line_of (line g) (idles 2 1 (negsuc 2)) ≡ codes "2 idle slow cmd!-3")
    × (line_of (line g) (fires 2 0 (pos 9223372036854775807))
    ≡ codes "2 fire fast cmd!9223372036854775807")
    × (line_of (line g) (FireAt 2 0 none true) ≡ codes "2 fire fast")

-- a disabled node's line tells what it drafted
abbrev pub DisabledDrafts : Global → Type 0
DisabledDrafts g =
    trace_text (line g) ((pos 10 ∷ []) ∷ [])
    (idles 0 0 (pos 2) ∷ ticks 0 (pos 1) (pos 11) ∷ DecideAt 1 0 Sc ∷ fires 1 1 (negsuc 1) ∷ [])
    ≡ codes
    "soter trace 1\nstart pos 10\n0 idle fast cmd=2\n0 tick pos(1)=11\n1 decide nav sc\n1 fire slow cmd=-2\nend 1 events 4 refused 0\n"

module _ (g : Global) where
  -- the running example with an environment topic e, a record topic of two fields that `fast`
  -- writes besides, and a plant of two states without disturbances
  abbrev pub e_topic : TopicInfo
  e_topic = record { name = codes "e"; outside = true; first = 1; count = 2 }

  abbrev pub goal_topic : TopicInfo
  goal_topic = record { name = codes "goal"; outside = false; first = 3; count = 2 }

  abbrev pub field_of : ℕ → List ℕ → ScalarInfo
  field_of topic field =
      record {
        topic = topic;
        field = Some field;
        scale = 0;
        truth = false;
        lo = negsuc 8;
        hi = pos 9;
        init = pos 0;
      }

  abbrev pub writer : NodeInfo
  writer = record (fast g) { writes = vec g (0 ∷ 3 ∷ 4 ∷ []) refl }

  abbrev pub still : PlantInfo
  still = record (pos_plant g) { name = codes "p"; noise = vec g [] refl }

  abbrev pub wide : Tables
  wide = record (line g) {
    topics = (line g).topics ++ e_topic ∷ goal_topic ∷ [];
    scalars =
        (line g).scalars ++ field_of 1 (codes "a") ∷ field_of 1 (codes "b") ∷ field_of 2 (codes "x")
        ∷ field_of 2 (codes "y") ∷ [];
    plants = pos_plant g ∷ still ∷ [];
    nodes = writer ∷ [];
  }

-- records by their fields, slots that are empty, inputs, and a plant without disturbances
abbrev pub RecordsAndInputs : Global → Type 0
RecordsAndInputs g =
    (line_of (wide g) (FireAt 3 0 (Some (pos 1) ∷ None ∷ Some (negsuc 9) ∷ replicate 5 None) true)
    ≡ codes "3 fire fast cmd=1 goal.y!-10")
    × (line_of (wide g) (FireAt 3 0 (None ∷ Some (pos 9) ∷ replicate 6 None) false)
    ≡ codes "3 idle fast goal.x=9")
    × (line_of (wide g) (InputAt 100 1 (pos 5 ∷ negsuc 0 ∷ [])) ≡ codes "100 input e=5,-1")
    × (line_of (wide g) (TickAt 4 (negsuc 0 ∷ []) (pos 3 ∷ pos 5 ∷ []))
    ≡ codes "4 tick pos(-1)=3 p()=5")

-- numbers of any size
abbrev pub NumbersOfAnySize : Type 0
NumbersOfAnySize =
    (numeral 0 ≡ codes "0")
    × (numeral 1070 ≡ codes "1070")
    × (signed_numeral (negsuc (10 ^ 66))
    ≡ codes "-1000000000000000000000000000000000000000000000000000000000000000001")

-- what the law on texts asks for is met
abbrev pub MeetsTheLaw : Global → Type 0
MeetsTheLaw g = AreWords (line g) × IsTraced (line g) ((pos 20 ∷ []) ∷ []) back
