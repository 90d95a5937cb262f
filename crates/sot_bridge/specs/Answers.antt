-- What a bridge answers to two names, a delay and the bytes of its input.
use Rattle.std.specs.Prelude.{ℕ, ◌+◌, ◌*◌, ◌≡◌, ◌≤◌, ◌<◌, ◌⊎◌, true, false, List, []}
use Rattle.std.specs.Prelude.{◌++◌, codes, Some, None, length}
use Rattle.sot_sections.specs.declared.mission.Need.TheVariants as needs
use Rattle.sot_lang.specs.Tables.{Tables}
use Rattle.sot_lang.specs.declared.cert.Cert.{Cert}
use Rattle.sot_tube.specs.Certified.{IsWellCertified}
use Rattle.sot_tube.specs.Verdict.{verdict}
use Rattle.sot_tube.specs.Refusals.{Refusal}
use Rattle.sot_world.specs.HistoryEntry.{Logged}
use Rattle.sot_world.specs.Headline.{EveryRunIsSafe}
use Rattle.sot_world.specs.Opens.{StartInside}
use Rattle.sot_flight.specs.Plans.{Plan}
use Rattle.sot_flight.specs.Relayed.{relayed}
use Rattle.sot_board.specs.Flown.{FlownBy}
use Rattle.sot_trace.specs.Traces.{trace_text}
use Rattle.sot_report.specs.declared.fault.Fault.{Fault}
use Rattle.sot_report.specs.Missions.{Mission, SpellsMission, HasFault}
use Rattle.sot_report.specs.FaultTexts.{fault_text}
use Rattle.sot_report.specs.RefusalTexts.{refusal_text}
use Rattle.sot_cli.specs.Starts.{IsOutsideLine}
use Rattle.sot_bridge.specs.MissionHalves.{MissionHalves, halves_of}
use Rattle.sot_bridge.specs.Topics.{IsNamed, Match}
use Rattle.sot_bridge.specs.Sends.{most_sends}
use Rattle.sot_bridge.specs.SendLaws.{sends_of}
use Rattle.sot_bridge.specs.declared.answer.Which.{Which}
use Rattle.sot_bridge.specs.declared.answer.Which.TheVariants.{A, B}
use Rattle.sot_bridge.specs.declared.joining.JoinFault.{JoinFault}
use Rattle.sot_bridge.specs.declared.joining.JoinFault.TheVariants as kinds
use Rattle.sot_bridge.specs.Texts.{section_text, kind_text}

-- a program's tables, a certificate and a flight, as a mission has them
pub record Side : Type 0 where
  pub tables : Tables
  pub cert : Cert
  pub plan : Plan

-- bytes spell a mission with its flight, in which no guest flies
abbrev pub SpellsSide : List ℕ → Side → Type 0
SpellsSide bytes s =
    (m : Mission) × SpellsMission needs.Fly 0 bytes m × (s.tables ≡ m.tables) × (s.cert ≡ m.cert)
    × (m.flight ≡ Some s.plan)

-- the bytes are divided at a line `%bridge`, and each half spells a mission
abbrev pub SpellPair : List ℕ → Side → Side → Type 0
SpellPair bytes a b =
    (halves : MissionHalves) × (halves_of bytes ≡ Some halves) × SpellsSide halves.a a
    × SpellsSide halves.b b

-- the topic of the first name, no environment topic of the one mission, and that of the second name,
-- an environment topic of the other
pub record AreNamed (a b : Side) (from to : List ℕ) (k l : ℕ) : Type 0 where
  pub from_is : IsNamed a.tables from false k
  pub to_is : IsNamed b.tables to true l

-- how often the first mission sends at most
abbrev pub most : Side → ℕ → ℕ
most a k = most_sends a.tables k a.plan.horizon

-- the topics match, the second mission flies long enough, and has room for what may come over
pub record Joins (a b : Side) (from to : List ℕ) (delay k l : ℕ) : Type 0 where
  pub named : AreNamed a b from to k l
  pub same : Match a.tables b.tables named.from_is.0 named.to_is.0
  pub long : a.plan.horizon + delay ≤ b.plan.horizon
  pub few_events : b.plan.events + most a k ≤ 200000
  pub few_numbers : b.plan.numbers + most a k * named.to_is.0.count ≤ 1000000

-- why they do not join: the first of these that is so
abbrev pub DoNotJoin : Side → Side → List ℕ → List ℕ → ℕ → JoinFault → Type 0
DoNotJoin a b from to delay kinds.Unknown =
    ((k : ℕ) → ¬ (IsNamed a.tables from false k)) ⊎ ((l : ℕ) → ¬ (IsNamed b.tables to true l))
DoNotJoin a b from to delay kinds.Type =
    (k l : ℕ) × (named : AreNamed a b from to k l)
    × (¬ (Match a.tables b.tables named.from_is.0 named.to_is.0))
DoNotJoin a b from to delay kinds.Horizon =
    (k l : ℕ) × (named : AreNamed a b from to k l)
    × Match a.tables b.tables named.from_is.0 named.to_is.0
    × (b.plan.horizon < a.plan.horizon + delay)
DoNotJoin a b from to delay kinds.TooManyEvents =
    (k l : ℕ) × (named : AreNamed a b from to k l)
    × Match a.tables b.tables named.from_is.0 named.to_is.0
    × (a.plan.horizon + delay ≤ b.plan.horizon) × (200000 < b.plan.events + most a k)
DoNotJoin a b from to delay kinds.TooManyNumbers =
    (k l : ℕ) × (named : AreNamed a b from to k l)
    × Match a.tables b.tables named.from_is.0 named.to_is.0
    × (a.plan.horizon + delay ≤ b.plan.horizon) × (b.plan.events + most a k ≤ 200000)
    × (1000000 < b.plan.numbers + most a k * named.to_is.0.count)

-- all conditions of a certificate hold of a mission
abbrev pub IsAccepted : Side → Type 0
IsAccepted s = IsWellCertified s.tables s.cert.jitter s.cert

-- all its plants start inside their modules' safer regions
abbrev pub Starts : Side → Type 0
Starts s = StartInside s.tables s.plan.start (length s.tables.modules)

-- the checker refuses a mission for the first condition that fails, and this is said of it
abbrev pub IsRefused : Side → List ℕ → Type 0
IsRefused s text =
    (r : Refusal) × (verdict s.tables s.cert.jitter s.cert).Refuses r
    × (text ≡ refusal_text s.tables r)

-- the plant of a module, the first one, starts outside its safer region, and this is said
abbrev pub IsOutsideOf : Tables → Plan → List ℕ → Type 0
IsOutsideOf t f text = IsOutsideLine t f.start text

abbrev pub IsOutside : Side → List ℕ → Type 0
IsOutside s text = IsOutsideOf s.tables s.plan text

-- the word in front of a line about the first mission, or about the second
abbrev pub word_of : Which → List ℕ
word_of A = codes "a "
word_of B = codes "b "

abbrev pub of_a : List ℕ → List ℕ
of_a text = word_of A ++ text

abbrev pub of_b : List ℕ → List ℕ
of_b text = word_of B ++ text

-- both are flown: the one as it is, the other with what the first sent on the topic, so many ticks
-- later; the text is their traces
pub record AreFlown (a b : Side) (delay k l : ℕ) (text : List ℕ) : Type 0 where
  pub a_history : List Logged
  pub b_history : List Logged
  pub a_flown : FlownBy a.tables a.cert.jitter a.plan a_history
  pub b_flown : FlownBy b.tables b.cert.jitter
      (relayed l delay (sends_of a.tables k a_history) b.plan) b_history
  pub text_is : text ≡ trace_text a.tables a.plan.start a_history
      ++ trace_text b.tables b.plan.start b_history

-- status 0: two missions that join are accepted, every run of them is safe, their plants start
-- inside, and both are flown
pub record Accepts (from to : List ℕ) (delay : ℕ) (bytes text : List ℕ) : Type 0 where
  pub a : Side
  pub b : Side
  pub k : ℕ
  pub l : ℕ
  pub spelled : SpellPair bytes a b
  pub joins : Joins a b from to delay k l
  pub a_accepted : IsAccepted a
  pub b_accepted : IsAccepted b
  pub a_safe : EveryRunIsSafe a.tables a.cert.jitter
  pub b_safe : EveryRunIsSafe b.tables b.cert.jitter
  pub a_starts : Starts a
  pub b_starts : Starts b
  pub flown : AreFlown a b delay k l text

-- what is refused of two missions: the first by the checker, else the second; else the start of the
-- first, else that of the second
abbrev pub RefusesOne : Side → Side → List ℕ → Type 0
RefusesOne a b text =
    ((line : List ℕ) × IsRefused a line × (text ≡ of_a line))
    ⊎ (IsAccepted a × ((line : List ℕ) × IsRefused b line × (text ≡ of_b line)))
    ⊎ (IsAccepted a × IsAccepted b × ((line : List ℕ) × IsOutside a line × (text ≡ of_a line)))
    ⊎ (IsAccepted a × IsAccepted b × Starts a
    × ((line : List ℕ) × IsOutside b line × (text ≡ of_b line)))

-- status 1: two missions that join, one of which is refused
abbrev pub Refutes : List ℕ → List ℕ → ℕ → List ℕ → List ℕ → Type 0
Refutes from to delay bytes text =
    (a b : Side) × (k l : ℕ) × SpellPair bytes a b × Joins a b from to delay k l
    × RefusesOne a b text

-- status 3: there is no line `%bridge`; the first fault of the first mission, else of the second;
-- else why the two do not join
abbrev pub Rejects : List ℕ → List ℕ → ℕ → List ℕ → List ℕ → Type 0
Rejects from to delay bytes text =
    ((halves_of bytes ≡ None) × (text ≡ section_text))
    ⊎ ((halves : MissionHalves) × (halves_of bytes ≡ Some halves)
    × (((f : Fault) × HasFault needs.Fly 0 halves.a f × (text ≡ of_a (fault_text f)))
    ⊎ ((a : Side) × SpellsSide halves.a a
    × ((f : Fault) × HasFault needs.Fly 0 halves.b f × (text ≡ of_b (fault_text f))))))
    ⊎ ((a b : Side) × SpellPair bytes a b
    × ((f : JoinFault) × DoNotJoin a b from to delay f × (text ≡ kind_text f)))

-- these bytes are answered with this status and this text
abbrev pub Replies : List ℕ → List ℕ → ℕ → List ℕ → ℕ → List ℕ → Type 0
Replies from to delay bytes status text =
    ((status ≡ 0) × Accepts from to delay bytes text)
    ⊎ ((status ≡ 1) × Refutes from to delay bytes text)
    ⊎ ((status ≡ 3) × Rejects from to delay bytes text)
