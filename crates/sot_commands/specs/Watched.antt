-- What is told of a flight that a formula watches.
use Rattle.std.specs.Prelude.{◌≡◌, ℕ, ◌+◌, List, ◌++◌, length}
use Rattle.sot_lang.specs.Tables.{Tables}
use Rattle.sot_world.specs.HistoryEntry.{Logged}
use Rattle.sot_world.specs.Opens.{StartInside}
use Rattle.sot_flight.specs.Plans.{Plan}
use Rattle.sot_ordered_board.specs.Order.{FliesInOrder}
use Rattle.sot_trace.specs.Traces.{trace_text}
use Rattle.sot_formula.specs.Formulas.{Formula}
use Rattle.sot_formula.specs.Phrases.{Phrase, IsFormulaText}
use Rattle.sot_formula.specs.Meanings.{Means}
use Rattle.sot_monitor.specs.Holding.{AlwaysHolds, FirstFails}
use Rattle.sot_monitor.specs.Moments.{moments_told}
use Rattle.sot_commands.specs.WatchTexts.{holds_text, fails_text}

-- the bytes are the text of a formula, and this is its meaning for a program
pub record IsFormula (t : Tables) (bytes : List ℕ) (x : Formula) : Type 0 where
  pub phrase : Phrase
  pub text : IsFormulaText bytes phrase
  pub means : Means t phrase x

-- the bytes are the text of a formula that has a meaning
abbrev pub HasMeaning : Tables → List ℕ → Type 0
HasMeaning t bytes = (x : Formula) × IsFormula t bytes x

-- a formula holds at every moment of a history, and this is said behind the trace with their
-- number: one more than the flight has ticks
abbrev pub TellsHolds : Tables → Plan → Formula → List Logged → List ℕ → Type 0
TellsHolds t f x history text =
    AlwaysHolds (moments_told t f.start history) x
    × (text ≡ trace_text t f.start history ++ holds_text (f.horizon + 1))

-- a formula fails at a moment of a history, and the first such moment is said behind the trace
abbrev pub TellsFails : Tables → Plan → Formula → List Logged → List ℕ → Type 0
TellsFails t f x history text =
    (time : ℕ) × FirstFails (moments_told t f.start history) x time
    × (text ≡ trace_text t f.start history ++ fails_text time)

-- a flight that a formula watches: every plant starts in its module's safer region, the formula has
-- a meaning for the program, and this is told of it over a history of the flight, flown in order
abbrev pub IsWatchedBy : (Tables → Plan → Formula → List Logged → List ℕ → Type 0) → List ℕ
    → Tables → ℕ → Plan → List ℕ → Type 0
IsWatchedBy Tells formula t jitter f text =
    StartInside t f.start (length t.modules)
    × ((x : Formula) × (history : List Logged) × IsFormula t formula x
    × FliesInOrder t jitter f history × Tells t f x history text)
