-- The laws of answers: what is said of bytes is said in one way.
use Rattle.std.specs.Prelude.{◌≡◌, ◌⊎◌, ℕ, List}
use Rattle.sot_text.specs.declared.token.Span.{Span}
use Rattle.sot_text.specs.Place.{rank}
use Rattle.sot_parser.specs.declared.syntax.Syntax.TheVariants.{Deep}
use Rattle.sot_rules.specs.declared.fault.TypeFault.{TypeFault}
use Rattle.sot_report.specs.FaultTexts.{syntax_text, type_text}
use Rattle.sot_report.specs.Missions.{Mission}
use Rattle.sot_sections.specs.declared.mission.Need.TheVariants as needs
use Rattle.sot_flight.specs.Plans.{Plan}
use Rattle.sot_commands.specs.declared.words.Command.{Command}
use Rattle.sot_commands.specs.declared.words.Command.TheVariants.{Check, Fly, Replay, Format}
use Rattle.sot_commands.specs.declared.words.Command.TheVariants.{Recover, Watch, Certify}
use Rattle.sot_commands.specs.declared.words.Command.TheVariants.{Make, Soak}
use Rattle.sot_commands.specs.Answers.{SpellsFor, IsIllegal, Accepts, Refutes, Rejects}
use Rattle.sot_commands.specs.Answers.{DoesNotFlyWatched}

-- the commands that say one thing of what they accept, where so many guests are handed in: a flight
-- with guests has several histories, and without them it has one
abbrev pub AcceptsOneWay : ℕ → Command → Type 0
AcceptsOneWay guests Check = Unit {0}
AcceptsOneWay guests Fly = guests ≡ 0
AcceptsOneWay guests Replay = Unit {0}
AcceptsOneWay guests Recover = Unit {0}
AcceptsOneWay guests (Watch formula) = guests ≡ 0
AcceptsOneWay guests Format = Unit {0}
AcceptsOneWay guests Certify = Unit {0}
AcceptsOneWay guests (Make n seed) = Unit {0}
AcceptsOneWay guests (Soak n seed) = Unit {0}

abbrev pub AcceptedOnce : Type 0
AcceptedOnce =
    (guests : ℕ) (command : Command) (bytes text other : List ℕ) → AcceptsOneWay guests command
    → Accepts guests command bytes text → Accepts guests command bytes other → text ≡ other

-- bytes are refused with one text: the first condition that fails with its evidence, the start, or
-- why there is no certificate; and a watched flight without guests at one moment. Of `replay`, and
-- of watched flights with guests, see below
abbrev pub RefusesOneWay : ℕ → Command → Type 0
RefusesOneWay guests Check = Unit {0}
RefusesOneWay guests Fly = Unit {0}
RefusesOneWay guests Replay = ⊥
RefusesOneWay guests Recover = Unit {0}
RefusesOneWay guests (Watch formula) = guests ≡ 0
RefusesOneWay guests Format = Unit {0}
RefusesOneWay guests Certify = Unit {0}
RefusesOneWay guests (Make n seed) = Unit {0}
RefusesOneWay guests (Soak n seed) = Unit {0}

abbrev pub RefusedOnce : Type 0
RefusedOnce =
    (guests : ℕ) (command : Command) (bytes text other : List ℕ) → RefusesOneWay guests command
    → Refutes guests command bytes text → Refutes guests command bytes other → text ≡ other

-- the lines of a trace are refused at one line by one test, of the tables of one mission
abbrev pub LinesRefusedOnce : Type 0
LinesRefusedOnce =
    (guests : ℕ) (bytes : List ℕ) (m : Mission) (f : Plan) (lines : List (List ℕ))
    (text other : List ℕ) → SpellsFor needs.Replay guests bytes m
    → IsIllegal m.tables m.cert.jitter f lines text → IsIllegal m.tables m.cert.jitter f lines other
    → text ≡ other

-- a watched flight with guests has several histories; but where the mission is not flown, nothing
-- else is said
abbrev pub UnflownToldOnce : Type 0
UnflownToldOnce =
    (guests : ℕ) (formula : _) (bytes text other : List ℕ)
    → Refutes guests (Watch formula) bytes text
    → DoesNotFlyWatched formula.now guests bytes other → text ≡ other

-- a text says that something nests too deep
abbrev pub SaysDeep : List ℕ → Type 0
SaysDeep text = (at : Span) × (text ≡ syntax_text (Deep at))

-- two texts tell faults of typing that begin at one place and break one rule
abbrev pub TellOneRule : List ℕ → List ℕ → Type 0
TellOneRule text other =
    (f g : TypeFault) × (rank f.at ≡ rank g.at) × (f.kind ≡ g.kind) × (text ≡ type_text f)
    × (other ≡ type_text g)

-- bytes have one first fault; but that something nests too deep may be said of more places than
-- one, and instead of what comes later
abbrev pub RejectedOnce : Type 0
RejectedOnce =
    (guests : ℕ) (command : Command) (bytes text other : List ℕ) → Rejects guests command bytes text
    → Rejects guests command bytes other
    → (text ≡ other) ⊎ TellOneRule text other ⊎ SaysDeep text ⊎ SaysDeep other
