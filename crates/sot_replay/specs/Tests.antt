-- The tests that a line of a trace has to pass where a flight stands, in their order.
use Rattle.std.specs.Prelude.{ℕ, ◌<◌, ◌≤◌, ◌≡◌, ◌≢◌, ◌⊎◌, List, [], ◌∷◌}
use Rattle.sot_lang.specs.Tables.{Tables}
use Rattle.sot_world.specs.declared.outcome.Why.{Why}
use Rattle.sot_world.specs.declared.outcome.Why.TheVariants as whys
use Rattle.sot_world.specs.Configurations.{Configuration}
use Rattle.sot_world.specs.Calendar.{NothingLeft}
use Rattle.sot_world.specs.Events.{RefusesInput, RefusesNode, RefusesDecision, RefusesTick}
use Rattle.sot_world.specs.HistoryEntry.{Logged}
use Rattle.sot_flight.specs.Plans.{Plan}
use Rattle.sot_board.specs.Flown.{Position, NoInputDue, Flies}
use Rattle.sot_trace.specs.Lines.{line_of}
use Rattle.sot_trace.specs.Traces.{last_line}
use Rattle.sot_trace_lines.specs.Spelled.{Spelled, InputLine, FireLine, DecideLine, TickLine}
use Rattle.sot_trace_lines.specs.Spelled.{EndLine, spelled_time, IsSpelled}
use Rattle.sot_replay.specs.GoesOn.{AreHandedOver}
use Rattle.sot_replay.specs.declared.fail.LineKind.{LineKind}
use Rattle.sot_replay.specs.declared.fail.LineKind.TheVariants.{NotALine, WrongTime, NotDue}
use Rattle.sot_replay.specs.declared.fail.LineKind.TheVariants.{AlreadyFired, NodesLeft}
use Rattle.sot_replay.specs.declared.fail.LineKind.TheVariants.{OutsideType, InputsLeft, TooFar}
use Rattle.sot_replay.specs.declared.fail.LineKind.TheVariants.{Differs, Ended, Missing}

-- the place of a test in their order; the four answers of the world are one test
abbrev pub order_of : LineKind → ℕ
order_of NotALine = 0
order_of WrongTime = 1
order_of NotDue = 2
order_of AlreadyFired = 2
order_of NodesLeft = 2
order_of OutsideType = 2
order_of InputsLeft = 3
order_of TooFar = 4
order_of Differs = 5
order_of Ended = 6
order_of Missing = 7

-- something is left to fire or to decide at the end
abbrev pub RefusesEnd : Tables → Configuration → Why → Type 0
RefusesEnd p C whys.NotDue = ⊥
RefusesEnd p C whys.AlreadyFired = ⊥
RefusesEnd p C whys.NodesLeft = NothingLeft p C → ⊥
RefusesEnd p C whys.OutsideType = ⊥

-- why the world refuses what a line spells
abbrev pub WorldRefuses : Tables → ℕ → Configuration → Spelled → Why → Type 0
WorldRefuses p jitter C (InputLine time topic value) why = RefusesInput p topic value why
WorldRefuses p jitter C (FireLine time node enabled slots) why = RefusesNode p jitter C node why
WorldRefuses p jitter C (DecideLine time decider mode) why = RefusesDecision p jitter C decider why
WorldRefuses p jitter C (TickLine time noise states) why = RefusesTick p jitter C noise why
WorldRefuses p jitter C (EndLine ticks events refused) why = RefusesEnd p C why

-- a tick or the end comes while an input is due
abbrev pub LeavesInputs : Position → Spelled → Type 0
LeavesInputs P (InputLine time topic value) = ⊥
LeavesInputs P (FireLine time node enabled slots) = ⊥
LeavesInputs P (DecideLine time decider mode) = ⊥
LeavesInputs P (TickLine time noise states) = NoInputDue P → ⊥
LeavesInputs P (EndLine ticks events refused) = NoInputDue P → ⊥

-- a tick comes at the horizon, or the end before it
abbrev pub IsTooFar : Plan → Position → Spelled → Type 0
IsTooFar f P (InputLine time topic value) = ⊥
IsTooFar f P (FireLine time node enabled slots) = ⊥
IsTooFar f P (DecideLine time decider mode) = ⊥
IsTooFar f P (TickLine time noise states) = f.horizon ≤ P.at.time
IsTooFar f P (EndLine ticks events refused) = P.at.time < f.horizon

-- the line is that of an entry with which the flight goes on
abbrev pub IsNextLine : Tables → ℕ → Plan → Position → List ℕ → Type 0
IsNextLine p jitter f P line =
    (entry : Logged) × (Q : Position) × Flies p jitter f P entry Q × AreHandedOver f (entry ∷ [])
    × (line ≡ line_of p entry)

-- the line is the one that its event gives by the program and the flight; at the end it counts the
-- history
abbrev pub IsGiven : Tables → ℕ → Plan → List Logged → Position → Spelled → List ℕ → Type 0
IsGiven p jitter f entries P (InputLine time topic value) line = IsNextLine p jitter f P line
IsGiven p jitter f entries P (FireLine time node enabled slots) line = IsNextLine p jitter f P line
IsGiven p jitter f entries P (DecideLine time decider mode) line = IsNextLine p jitter f P line
IsGiven p jitter f entries P (TickLine time noise states) line = IsNextLine p jitter f P line
IsGiven p jitter f entries P (EndLine ticks events refused) line = line ≡ last_line p entries

-- the test of this kind fails for a line that spells s, behind a history so far that leads to P;
-- that a line spells something, that none stands behind the end and that none is missing are tests
-- of other places
abbrev pub Fails : LineKind → Tables → ℕ → Plan → List Logged → Position → Spelled → List ℕ → Type 0
Fails NotALine p jitter f entries P s line = ⊥
Fails WrongTime p jitter f entries P s line = spelled_time s ≢ P.at.time
Fails NotDue p jitter f entries P s line = WorldRefuses p jitter P.at s whys.NotDue
Fails AlreadyFired p jitter f entries P s line = WorldRefuses p jitter P.at s whys.AlreadyFired
Fails NodesLeft p jitter f entries P s line = WorldRefuses p jitter P.at s whys.NodesLeft
Fails OutsideType p jitter f entries P s line = WorldRefuses p jitter P.at s whys.OutsideType
Fails InputsLeft p jitter f entries P s line = LeavesInputs P s
Fails TooFar p jitter f entries P s line = IsTooFar f P s
Fails Differs p jitter f entries P s line = IsGiven p jitter f entries P s line → ⊥
Fails Ended p jitter f entries P s line = ⊥
Fails Missing p jitter f entries P s line = ⊥

-- the test of this kind is the first that fails: the line spells nothing, or it spells s, for which
-- it fails and no earlier one
pub record FailsFirst (p : Tables) (jitter : ℕ) (f : Plan) (entries : List Logged) (P : Position)
    (line : List ℕ) (kind : LineKind) (s : Spelled) : Type 0 where
  pub spelled : IsSpelled p line s
  pub fails : Fails kind p jitter f entries P s line
  pub first : (k : LineKind) → order_of k < order_of kind → Fails k p jitter f entries P s line → ⊥

abbrev pub IsFirstFailing : Tables → ℕ → Plan → List Logged → Position → List ℕ → LineKind → Type 0
IsFirstFailing p jitter f entries P line kind =
    ((kind ≡ NotALine) × ((s : Spelled) → IsSpelled p line s → ⊥))
    ⊎ ((s : Spelled) × FailsFirst p jitter f entries P line kind s)
