-- What the functions below `bridge` promise it.
use Rattle.std.specs.Prelude.{◌≡◌, ℕ, ◌+◌, ◌*◌, ◌<◌, ◌≤◌, ◌⊎◌, ◌++◌, List, Option, length, String}
use Rattle.std.proofs.Common.{Global}
use Rattle.sot_lang.specs.Tables.{Tables}
use Rattle.sot_world.specs.Headline.{EveryRunIsSafe}
use Rattle.sot_world.specs.HistoryEntry.{Logged}
use Rattle.sot_world.specs.Opens.{StartInside}
use Rattle.sot_flight.specs.Plans.{Plan}
use Rattle.sot_flight.specs.Relayed.{Send, relayed}
use Rattle.sot_board.specs.Flown.{FlownBy}
use Rattle.sot_trace.specs.Traces.{trace_text}
use Rattle.sot_cli.specs.Steps.{InputAnswer, SilentWhere}
use Rattle.sot_bridge.specs.Words.{Asks}
use Rattle.sot_bridge.specs.SendLaws.{sends_of}
use Rattle.sot_bridge.specs.declared.joining.JoinFault.{JoinFault}
use Rattle.sot_bridge.specs.declared.joining.JoinFault.TheVariants as kinds
use Rattle.sot_bridge.specs.Answers.{Side, IsAccepted, Starts, RefusesOne, AreFlown, Replies}
use Rattle.sot_bridge.specs.Answers.{Joins, DoNotJoin, IsRefused, IsOutside, IsOutsideOf}
use Rattle.sot_bridge.specs.Answers.{of_a, of_b}
use Rattle.sot_bridge.specs.Ends.{AskSome, AskNone}
use Rattle.sot_bridge.specs.Texts.{usage_text, kind_text}

-- the second flight is long enough, and has room for so many sends of so many numbers each
pub record HasRoom (f g : Plan) (delay most count : ℕ) : Type 0 where
  pub long : f.horizon + delay ≤ g.horizon
  pub few_events : g.events + most ≤ 200000
  pub few_numbers : g.numbers + most * count ≤ 1000000

abbrev pub LacksRoom : Plan → Plan → ℕ → ℕ → ℕ → JoinFault → Type 0
LacksRoom f g delay most count kinds.Unknown = ⊥
LacksRoom f g delay most count kinds.Type = ⊥
LacksRoom f g delay most count kinds.Horizon = g.horizon < f.horizon + delay
LacksRoom f g delay most count kinds.TooManyEvents =
    (f.horizon + delay ≤ g.horizon) × (200000 < g.events + most)
LacksRoom f g delay most count kinds.TooManyNumbers =
    (f.horizon + delay ≤ g.horizon) × (g.events + most ≤ 200000)
    × (1000000 < g.numbers + most * count)

-- the first mission was flown: its trace, and what it sent on the topic
abbrev pub IsFirstFlown : Tables → ℕ → Plan → ℕ → List ℕ → List Send → Type 0
IsFirstFlown t jitter f k text sends =
    (history : List Logged) × FlownBy t jitter f history × (text ≡ trace_text t f.start history)
    × (sends ≡ sends_of t k history)

-- what is said of the second mission, whose flight has what comes over among its inputs, behind the
-- trace of the first
abbrev pub SaysRelayed : Tables → ℕ → Plan → List ℕ → ℕ → List ℕ → Type 0
SaysRelayed t jitter f front status text =
    ((status ≡ 0) × StartInside t f.start (length t.modules)
    × ((history : List Logged) × FlownBy t jitter f history
    × (text ≡ front ++ trace_text t f.start history)))
    ⊎ ((status ≡ 1) × ((line : List ℕ) × IsOutsideOf t f line × (text ≡ of_b line)))

-- what is said of the second mission, whose flight takes what comes over, behind the trace of the
-- first
abbrev pub SaysSecond : Tables → ℕ → Plan → ℕ → ℕ → List ℕ → List Send → ℕ → List ℕ → Type 0
SaysSecond t jitter f l delay front sends status text =
    SaysRelayed t jitter (relayed l delay sends f) front status text

-- what is said of the flights of two accepted missions
abbrev pub JudgesFlights : Side → Side → ℕ → ℕ → ℕ → ℕ → List ℕ → Type 0
JudgesFlights a b delay k l status text =
    ((status ≡ 0) × Starts a × Starts b × AreFlown a b delay k l text)
    ⊎ ((status ≡ 1) × ((line : List ℕ) × IsOutside a line × (text ≡ of_a line)))
    ⊎ ((status ≡ 1) × Starts a × ((line : List ℕ) × IsOutside b line × (text ≡ of_b line)))

-- what is said of two missions that join, the first of which is accepted
abbrev pub JudgesSecond : Side → Side → ℕ → ℕ → ℕ → ℕ → List ℕ → Type 0
JudgesSecond a b delay k l status text =
    (IsAccepted b × EveryRunIsSafe b.tables b.cert.jitter
    × JudgesFlights a b delay k l status text)
    ⊎ ((status ≡ 1) × ((line : List ℕ) × IsRefused b line × (text ≡ of_b line)))

-- what is said of two missions that join
abbrev pub JudgesBoth : Side → Side → ℕ → ℕ → ℕ → ℕ → List ℕ → Type 0
JudgesBoth a b delay k l status text =
    ((status ≡ 0) × IsAccepted a × IsAccepted b × EveryRunIsSafe a.tables a.cert.jitter
    × EveryRunIsSafe b.tables b.cert.jitter × Starts a × Starts b × AreFlown a b delay k l text)
    ⊎ ((status ≡ 1) × RefusesOne a b text)

-- what is said of two missions
abbrev pub RepliesBoth : Side → Side → List ℕ → List ℕ → ℕ → ℕ → List ℕ → Type 0
RepliesBoth a b from to delay status text =
    ((k l : ℕ) × Joins a b from to delay k l × JudgesBoth a b delay k l status text)
    ⊎ ((status ≡ 3) × ((f : JoinFault) × DoNotJoin a b from to delay f × (text ≡ kind_text f)))

-- what is said of what is read, or of too much
abbrev pub AskAnswer : List ℕ → List ℕ → ℕ → Option (List ℕ) → Option (List ℕ) → ℕ → List ℕ
    → Type 0
AskAnswer from to delay left left_after status text =
    InputAnswer (Replies from to delay) left left_after status text

-- what is said at the words
abbrev pub WordAnswer : List (String Global) → Option (List ℕ) → Option (List ℕ) → ℕ → List ℕ
    → Type 0
WordAnswer words left left_after status text =
    ((from to : List ℕ) × (delay : ℕ) × Asks words from to delay
    × AskAnswer from to delay left left_after status text)
    ⊎ (AskNone words × (status ≡ 2) × (text ≡ usage_text))

-- why nothing is said: memory, with no fault of the source, or a source that failed
abbrev pub Silence : List (String Global) → ℕ → ℕ → ℕ → Type 0
Silence words faults faults_after status =
    SilentWhere (AskSome words) faults faults_after status
