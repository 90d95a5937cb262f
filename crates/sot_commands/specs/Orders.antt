-- Flights that words order, and how a call that flies one may end.
use Rattle.std.specs.Prelude.{◌≡◌, ℕ, ◌≤◌, ◌⊎◌, List, Option, length, String}
use Rattle.std.proofs.Common.{Global}
use Rattle.sot_sections.specs.declared.mission.Need.TheVariants as needs
use Rattle.sot_lang.specs.Tables.{Tables}
use Rattle.sot_flight.specs.Plans.{Plan}
use Rattle.sot_maker.specs.Missions.{mission_text as made_text}
use Rattle.sot_report.specs.declared.fault.Fault.{Fault}
use Rattle.sot_report.specs.Missions.{HasFault}
use Rattle.sot_report.specs.FaultTexts.{fault_text}
use Rattle.sot_cli.specs.Texts.{input_limit}
use Rattle.sot_commands.specs.declared.words.Command.{Command}
use Rattle.sot_commands.specs.declared.words.Command.TheVariants.{Check, Fly, Replay, Format}
use Rattle.sot_commands.specs.declared.words.Command.TheVariants.{Recover, Watch, Certify}
use Rattle.sot_commands.specs.declared.words.Command.TheVariants.{Make, Soak}
use Rattle.sot_commands.specs.declared.telling.Telling.{Telling}
use Rattle.sot_commands.specs.declared.telling.Telling.TheVariants.{Trace, Summary, Verdict}
use Rattle.sot_cli.specs.declared.status.Status.{Status}
use Rattle.sot_commands.specs.declared.order.FlightOrder.{FlightOrder}
use Rattle.sot_commands.specs.declared.order.Begun.{Begun}
use Rattle.sot_commands.specs.declared.order.Begun.TheVariants.{Ended, Flight}
use Rattle.sot_commands.specs.Words.{Asks}
use Rattle.sot_commands.specs.Answers.{IsTraceOf, IsSummaryOf, FliesWith, DoesNotFly}
use Rattle.sot_commands.specs.Answers.{DoesNotFlyWatched, HasFormulaFault}
use Rattle.sot_commands.specs.Watched.{TellsHolds, TellsFails, IsWatchedBy}
use Rattle.sot_ports.specs.Outside.{Written}
use Rattle.sot_commands.specs.Ends.{Takes}

-- of a call that has ended, this holds of its status
abbrev pub IfEnded : Begun → (Status → Type 0) → Type 0
IfEnded (Ended status) P = P status
IfEnded (Flight order) P = Unit {0}

-- of a call that leaves a flight, this holds of the flight
abbrev pub IfFlight : Begun → (FlightOrder → Type 0) → Type 0
IfFlight (Ended status) P = Unit {0}
IfFlight (Flight order) P = P order

-- the mission that a command flies, and what is told of its flight: `fly` that which it read, and
-- the trace; `watch` the same, and a formula's verdict behind the trace; `soak` that which is made
-- from its two numbers, and the summary. No other command flies
abbrev pub Orders : Command → List ℕ → Telling → List ℕ → Type 0
Orders Check bytes telling mission = ⊥
Orders Fly bytes telling mission = (telling ≡ Trace) × (mission ≡ bytes)
Orders Replay bytes telling mission = ⊥
Orders Recover bytes telling mission = ⊥
Orders (Watch formula) bytes telling mission = (telling ≡ Verdict formula) × (mission ≡ bytes)
Orders Format bytes telling mission = ⊥
Orders Certify bytes telling mission = ⊥
Orders (Make n seed) bytes telling mission = ⊥
Orders (Soak n seed) bytes telling mission = (telling ≡ Summary) × (mission ≡ made_text n seed)

-- a command orders this flight by what it took of a source, at most 16 MiB
abbrev pub CommandOrder : Command → Option (List ℕ) → Option (List ℕ) → FlightOrder → Type 0
CommandOrder command left left_after order =
    (bytes : List ℕ) × Takes command left left_after bytes × (length bytes ≤ input_limit)
    × Orders command bytes order.telling order.text.items

-- the words ask for a command that orders this flight
abbrev pub IsOrdered : List (String Global) → Option (List ℕ) → Option (List ℕ) → FlightOrder
    → Type 0
IsOrdered words left left_after order =
    (command : Command) × Asks words command × CommandOrder command left left_after order

-- what is told of a flight that was flown
abbrev pub IsToldOf : Telling → Tables → ℕ → Plan → List ℕ → Type 0
IsToldOf Trace t jitter f text = IsTraceOf t jitter f text
IsToldOf Summary t jitter f text = IsSummaryOf t jitter f text
IsToldOf (Verdict formula) t jitter f text = IsWatchedBy TellsHolds formula.now t jitter f text

-- of a flight that was flown, the formula that watches it fails, and this is told
abbrev pub IsFailedOf : Telling → Tables → ℕ → Plan → List ℕ → Type 0
IsFailedOf Trace t jitter f text = ⊥
IsFailedOf Summary t jitter f text = ⊥
IsFailedOf (Verdict formula) t jitter f text = IsWatchedBy TellsFails formula.now t jitter f text

-- status 1: the flight is not flown, or it is and the formula that watches it fails
abbrev pub RefusesFlight : Telling → ℕ → List ℕ → List ℕ → Type 0
RefusesFlight Trace guests mission text = DoesNotFly guests mission text
RefusesFlight Summary guests mission text = DoesNotFly guests mission text
RefusesFlight (Verdict formula) guests mission text =
    FliesWith (IsFailedOf (Verdict formula)) guests mission text
    ⊎ DoesNotFlyWatched formula.now guests mission text

-- status 3: the first fault of the mission's text, or else that of the formula
abbrev pub IsFaulty : Telling → ℕ → List ℕ → List ℕ → Type 0
IsFaulty Trace guests mission text =
    (f : Fault) × HasFault needs.Fly guests mission f × (text ≡ fault_text f)
IsFaulty Summary guests mission text =
    (f : Fault) × HasFault needs.Fly guests mission f × (text ≡ fault_text f)
IsFaulty (Verdict formula) guests mission text =
    ((f : Fault) × HasFault needs.Fly guests mission f × (text ≡ fault_text f))
    ⊎ HasFormulaFault formula.now guests mission text

-- what is said of a mission with a flight. Status 0: it is accepted, every run of it is safe, and
-- this is told of its flight; 1: it is refused, or its flight's start is, or the formula that
-- watches the flight fails; 3: the first fault of its text, or else the formula's
abbrev pub FliesBytes : ℕ → Telling → List ℕ → ℕ → List ℕ → Type 0
FliesBytes guests telling mission status text =
    ((status ≡ 0) × FliesWith (IsToldOf telling) guests mission text)
    ⊎ ((status ≡ 1) × RefusesFlight telling guests mission text)
    ⊎ ((status ≡ 3) × IsFaulty telling guests mission text)

-- a formula watches the flight
abbrev pub IsVerdict : Telling → Type 0
IsVerdict Trace = ⊥
IsVerdict Summary = ⊥
IsVerdict (Verdict formula) = Unit {0}

-- how many guests fly, of so many that are handed in: all, and none for a summary
abbrev pub handed_in : Telling → ℕ → ℕ
handed_in Trace guests = guests
handed_in Summary guests = 0
handed_in (Verdict formula) guests = guests

-- how a call that flies an order ends: want of memory, and nothing is said; or this was said of the
-- flight, and written, or the sink failed before its end
abbrev pub FlightEnds : ℕ → Telling → List ℕ → Option (List ℕ) → Option (List ℕ) → ℕ → ℕ → ℕ
    → Type 0
FlightEnds guests telling mission held held_after faults faults_after status =
    ((status ≡ 6) × (faults_after ≡ faults))
    ⊎ ((said : ℕ) × (text : List ℕ) × FliesBytes (handed_in telling guests) telling mission said
    text × Written held held_after faults faults_after said text status)
