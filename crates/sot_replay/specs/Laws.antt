-- The laws of replay: with which lines a trace goes on, and that there is one answer.
use Rattle.std.specs.Prelude.{ℕ, ◌≡◌, ◌≢◌, ◌⊎◌, ◌↔◌, List, [], ◌∷◌, ◌++◌}
use Rattle.sot_lang.specs.Tables.{Tables}
use Rattle.sot_lang.specs.TableRules.{MeetsTableRules}
use Rattle.sot_world.specs.HistoryEntry.{Logged}
use Rattle.sot_flight.specs.Plans.{Plan}
use Rattle.sot_board.specs.Flown.{IsEnd}
use Rattle.sot_board.specs.Standing.{Standing, IsStanding}
use Rattle.sot_trace.specs.Lines.{header}
use Rattle.sot_trace.specs.Traces.{last_line}
use Rattle.sot_trace.specs.Words.{AreWords}
use Rattle.sot_replay.specs.GoesOn.{IsTraceOf, GoesOn}
use Rattle.sot_replay.specs.Tests.{IsNextLine, IsFirstFailing}
use Rattle.sot_replay.specs.Replays.{Tell, IsRefusedAt}
use Rattle.sot_replay.specs.declared.fail.LineKind.{LineKind}
use Rattle.sot_replay.specs.declared.fail.LineKind.TheVariants.{NotALine, Missing}

-- lines that tell the history of a flight so far begin the trace of a whole one
abbrev pub ToldLinesGoOn : Type 0
ToldLinesGoOn =
    (b : Standing) (front : List (List ℕ)) → IsStanding b
    → Tell b.accepted.program b.accepted.cert.jitter b.plan front b.entries b.position
    → GoesOn b.accepted.program b.accepted.cert.jitter b.plan front

-- lines that tell the history of a flight so far, and a line more, begin the trace of a whole one
-- exactly where that is the line of an entry with which the flight goes on, or the last line at
-- the flight's end
abbrev pub NextLinesGoOn : Type 0
NextLinesGoOn =
    (b : Standing) (front : List (List ℕ)) (line : List ℕ) → IsStanding b
    → AreWords b.accepted.program → Tell b.accepted.program b.accepted.cert.jitter b.plan front
    b.entries b.position
    → GoesOn b.accepted.program b.accepted.cert.jitter b.plan (front ++ line ∷ [])
    ↔ (IsNextLine b.accepted.program b.accepted.cert.jitter b.plan b.position line
    ⊎ (IsEnd b.accepted.program b.plan b.position
    × (line ≡ last_line b.accepted.program b.entries)))

-- lines that tell the history of a flight so far, and a line for which a test fails, begin no
-- trace
abbrev pub FailingLinesStop : Type 0
FailingLinesStop =
    (b : Standing) (front : List (List ℕ)) (line : List ℕ) (kind : LineKind) → IsStanding b
    → AreWords b.accepted.program
    → Tell b.accepted.program b.accepted.cert.jitter b.plan front b.entries b.position
    → IsFirstFailing b.accepted.program b.accepted.cert.jitter b.plan b.entries b.position line kind
    → GoesOn b.accepted.program b.accepted.cert.jitter b.plan (front ++ line ∷ []) → ⊥

-- lines are refused at one line, and there by one test
abbrev pub RefusedOnce : Type 0
RefusedOnce =
    (p : Tables) (jitter : ℕ) (f : Plan) (lines : List (List ℕ)) (number other : ℕ)
    (kind another : LineKind) → MeetsTableRules p → AreWords p
    → IsRefusedAt p jitter f lines number kind → IsRefusedAt p jitter f lines other another
    → (number ≡ other) × (kind ≡ another)

-- the trace of a whole history is not refused
abbrev pub TracesAreNotRefused : Type 0
TracesAreNotRefused =
    (p : Tables) (jitter : ℕ) (f : Plan) (lines : List (List ℕ)) (entries : List Logged)
    (number : ℕ) (kind : LineKind) → IsTraceOf p jitter f lines entries
    → IsRefusedAt p jitter f lines number kind → ⊥

-- lines are the trace of one history
abbrev pub TracedOnce : Type 0
TracedOnce =
    (p : Tables) (jitter : ℕ) (f : Plan) (lines : List (List ℕ)) (entries others : List Logged)
    → MeetsTableRules p → AreWords p
    → IsTraceOf p jitter f lines entries → IsTraceOf p jitter f lines others → entries ≡ others

-- no line at all is missing at line 1, and another first line than the header is no line of a
-- trace, whatever follows
abbrev pub FirstLines : Type 0
FirstLines =
    (b : Standing) (front : List (List ℕ)) → IsStanding b
    → Tell b.accepted.program b.accepted.cert.jitter b.plan front b.entries b.position
    → IsRefusedAt b.accepted.program b.accepted.cert.jitter b.plan [] 1 Missing
    × ((line : List ℕ) (more : List (List ℕ)) → line ≢ header
    → IsRefusedAt b.accepted.program b.accepted.cert.jitter b.plan (line ∷ more) 1 NotALine)
