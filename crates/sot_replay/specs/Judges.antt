-- What is judged of a line behind the start lines, where a flight stands.
use Rattle.std.specs.Prelude.{ℕ, ◌≡◌, ◌<◌, ◌⊎◌, ℤ, pos, Bool, List, [], ◌∷◌, ◌++◌, length, Option}
use Rattle.std.specs.Prelude.{None, Some}
use Rattle.sot_lang.specs.Tables.{Tables}
use Rattle.sot_world.specs.declared.mode.Mode.{Mode}
use Rattle.sot_world.specs.declared.outcome.Why.{Why}
use Rattle.sot_world.specs.declared.outcome.Why.TheVariants as whys
use Rattle.sot_world.specs.Events.{IsInBounds}
use Rattle.sot_world.specs.HistoryEntry.{Logged}
use Rattle.sot_board.specs.Flown.{Flies, IsEnd}
use Rattle.sot_board.specs.Standing.{Standing}
use Rattle.sot_trace.specs.Lines.{line_of, ticks_in, refused_in}
use Rattle.sot_trace.specs.Traces.{last_line}
use Rattle.sot_trace_lines.specs.Spelled.{Spelled, InputLine, FireLine, DecideLine, TickLine}
use Rattle.sot_trace_lines.specs.Spelled.{EndLine, IsSpelled}
use Rattle.sot_trace_lines.specs.Shown.{Reads, Holds, ShowsDraft, BeginsFiring, BeginsTick}
use Rattle.sot_replay.specs.GoesOn.{AreHandedOver}
use Rattle.sot_replay.specs.Tests.{IsFirstFailing}
use Rattle.sot_replay.specs.declared.fail.LineKind.{LineKind}
use Rattle.sot_replay.specs.declared.fail.LineKind.TheVariants.{NotALine, NotDue, AlreadyFired}
use Rattle.sot_replay.specs.declared.fail.LineKind.TheVariants.{NodesLeft, OutsideType, Differs}
use Rattle.sot_replay.specs.declared.judged.Added.{Added}
use Rattle.sot_replay.specs.declared.judged.Judged.{Judged}
use Rattle.sot_replay.specs.declared.judged.Judged.TheVariants.{Goes, Ends, Fails}

-- this is what an entry adds to the counts of the last line
abbrev pub Adds : Tables → Logged → Added → Type 0
Adds p entry added = (added.ticks ≡ ticks_in entry) × (added.refused ≡ refused_in p entry)

-- the flight goes on by an entry whose line this is; the history has that entry more, and program
-- and flight stay
pub record GoesBy (old new : Standing) (line : List ℕ) (added : Added) : Type 0 where
  pub entry : Logged
  pub flies : Flies old.accepted.program old.accepted.cert.jitter old.plan old.position entry
      new.position
  pub handed : AreHandedOver old.plan (entry ∷ [])
  pub is : line ≡ line_of old.accepted.program entry
  pub adds : Adds old.accepted.program entry added
  pub entries : new.entries ≡ old.entries ++ entry ∷ []
  pub accepted : new.accepted ≡ old.accepted
  pub plan : new.plan ≡ old.plan

-- the flight is at its end, this is the last line, and nothing changes
pub record EndsBy (old new : Standing) (line : List ℕ) : Type 0 where
  pub at_end : IsEnd old.accepted.program old.plan old.position
  pub is : line ≡ last_line old.accepted.program old.entries
  pub same : new ≡ old

-- what is judged of a line where a flight stands; where it fails, nothing is said of where the
-- flight comes to
abbrev pub IsJudged : Standing → Standing → List ℕ → Judged → Type 0
IsJudged old new line (Goes added) = GoesBy old new line added
IsJudged old new line Ends = EndsBy old new line
IsJudged old new line (Fails kind) =
    IsFirstFailing old.accepted.program old.accepted.cert.jitter old.plan old.entries old.position
    line kind

-- a line goes where it is that of an entry, with what this adds to the counts, and else it differs
abbrev pub IsCompared : Tables → Logged → List ℕ → Judged → Type 0
IsCompared p entry line (Goes added) = (line ≡ line_of p entry) × Adds p entry added
IsCompared p entry line Ends = ⊥
IsCompared p entry line (Fails kind) = (kind ≡ Differs) × (line ≡ line_of p entry → ⊥)

-- the test that fails where the world refuses
abbrev pub kind_of : Why → LineKind
kind_of whys.NotDue = NotDue
kind_of whys.AlreadyFired = AlreadyFired
kind_of whys.NodesLeft = NodesLeft
kind_of whys.OutsideType = OutsideType

-- the line spells an input, at a time and with a value that are known as far as they have 64 bits
abbrev pub SpellsInput : Tables → List ℕ → Option ℤ → ℕ → Bool → List ℤ → Type 0
SpellsInput p line time topic whole list =
    (t : ℕ) × (value : List ℤ) × IsSpelled p line (InputLine t topic value) × Reads time (pos t)
    × Holds whole list value

-- the line spells a decision, at a time that is known as far as it has 64 bits
abbrev pub SpellsDecision : Tables → List ℕ → Option ℤ → ℕ → Type 0
SpellsDecision p line time decider =
    (t : ℕ) × (mode : Mode) × IsSpelled p line (DecideLine t decider mode) × Reads time (pos t)

-- the line spells the end, with a count of ticks that is known as far as it has 64 bits
abbrev pub SpellsEnd : Tables → List ℕ → Option ℤ → Type 0
SpellsEnd p line ticks =
    (h events refused : ℕ) × IsSpelled p line (EndLine h events refused) × Reads ticks (pos h)

-- the line spells a firing at this time
abbrev pub SpellsFiringAt : Tables → ℕ → List ℕ → ℕ → Option (List (Option ℤ)) → Type 0
SpellsFiringAt p time line node draft =
    (enabled : Bool) × (slots : List (Option (Bool × ℤ)))
    × IsSpelled p line (FireLine time node enabled slots) × ShowsDraft draft slots

-- what the line spells, if it spells anything, is a firing of this node at this time
abbrev pub FiresAt : Tables → ℕ → List ℕ → ℕ → Type 0
FiresAt p time line node =
    (s : Spelled) → IsSpelled p line s
    → (enabled : Bool) × (slots : List (Option (Bool × ℤ))) × (s ≡ FireLine time node enabled slots)

-- what the line spells, if it spells anything, is a firing of this node, at a time that is known
-- as far as it has 64 bits
abbrev pub BeginsAsFiring : Tables → List ℕ → Option ℤ → ℕ → Type 0
BeginsAsFiring p line time node =
    (node < length p.nodes) × ((s : Spelled) → IsSpelled p line s → BeginsFiring time node s)

-- what the line spells, if it spells anything, is a tick at a time that is known as far as it has
-- 64 bits
abbrev pub BeginsAsTick : Tables → List ℕ → Option ℤ → Type 0
BeginsAsTick p line time = (s : Spelled) → IsSpelled p line s → BeginsTick time s

-- what the line spells, if it spells anything, is a tick, at any time
abbrev pub SpellsTicks : Tables → List ℕ → Type 0
SpellsTicks p line =
    (s : Spelled) → IsSpelled p line s
    → (t : ℕ) × (noise : List ℤ) × (states : List ℤ) × (s ≡ TickLine t noise states)

-- what is read of the line of a tick: nothing where it spells nothing, or whether the list holds
-- its disturbances
abbrev pub ReadsTick : Tables → List ℕ → List ℤ → Option Bool → Type 0
ReadsTick p line list None = (s : Spelled) → IsSpelled p line s → ⊥
ReadsTick p line list (Some whole) =
    (t : ℕ) × (noise : List ℤ) × (states : List ℤ) × IsSpelled p line (TickLine t noise states)
    × Holds whole list noise

-- the test that fails of a line that spells nothing but ticks: it spells nothing, or its
-- disturbances are out of their bounds, or they are not, and it is this one
abbrev pub FailsTick : Tables → List ℕ → LineKind → LineKind → Type 0
FailsTick p line kind whole =
    ((whole ≡ NotALine) × ((s : Spelled) → IsSpelled p line s → ⊥))
    ⊎ (((whole ≡ OutsideType) × (t : ℕ) × (noise : List ℤ) × (states : List ℤ)
    × IsSpelled p line (TickLine t noise states) × (IsInBounds p.plants noise → ⊥))
    ⊎ ((whole ≡ kind) × (t : ℕ) × (noise : List ℤ) × (states : List ℤ)
    × IsSpelled p line (TickLine t noise states) × IsInBounds p.plants noise))

-- the test that fails where only the front of the line was read before: the line spells nothing, or
-- it spells something and it is this one
abbrev pub FailsBy : Tables → List ℕ → LineKind → LineKind → Type 0
FailsBy p line kind whole =
    ((whole ≡ NotALine) × ((s : Spelled) → IsSpelled p line s → ⊥))
    ⊎ ((whole ≡ kind) × (s : Spelled) × IsSpelled p line s)

-- what is judged of the whole line, where this was judged of it by its front
abbrev pub IsReadOn : Tables → List ℕ → Judged → Judged → Type 0
IsReadOn p line (Goes added) whole = whole ≡ Goes added
IsReadOn p line Ends whole = whole ≡ Ends
IsReadOn p line (Fails kind) whole =
    (kind' : LineKind) × (whole ≡ Fails kind') × FailsBy p line kind kind'
