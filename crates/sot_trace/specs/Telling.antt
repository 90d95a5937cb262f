-- The law that the text tells the history, and the law that a flown history is told.
use Rattle.std.specs.Prelude.{◌≡◌, ℕ, ℤ, ◌<◌, ◌≤◌, List, Option, length}
use Rattle.sot_lists.specs.Places.{At}
use Rattle.sot_lang.specs.Tables.{Tables}
use Rattle.sot_lang.specs.TableRules.{MeetsTableRules}
use Rattle.sot_code.specs.Recorded.{in_slots}
use Rattle.sot_world.specs.Events.{noise_count}
use Rattle.sot_world.specs.HistoryEntry.{Logged, InputAt, FireAt, DecideAt, TickAt}
use Rattle.sot_flight.specs.Plans.{Plan}
use Rattle.sot_board.specs.Counts.{state_count}
use Rattle.sot_board.specs.Flown.{Position, FlownSoFar}
use Rattle.sot_trace.specs.Lines.{writes_of}
use Rattle.sot_trace.specs.Traces.{trace_text}
use Rattle.sot_trace.specs.Words.{AreWords}

-- these slots hold a number or nothing for each of these scalars, and nothing behind them
abbrev pub IsDraftOf : List ℕ → List (Option ℤ) → Type 0
IsDraftOf writes slots =
    (draft : List (Option ℤ)) × (length draft ≡ length writes) × (slots ≡ in_slots draft)

-- the line of an entry leaves out nothing of it. Each part is needed: what is not there has no
-- name, numbers past those of the last plant are not printed, and of a draft only the numbers of
-- the node's scalars are
abbrev pub IsTold : Tables → Logged → Type 0
IsTold p (InputAt time topic value) = topic < length p.topics
IsTold p (FireAt time node slots enabled) =
    (node < length p.nodes) × IsDraftOf (writes_of p node) slots
IsTold p (DecideAt time decider mode) = decider < length p.modules
IsTold p (TickAt time noise states) =
    (length noise ≤ noise_count p.plants) × (length states ≤ state_count p.plants)

-- a start and a history of which the text leaves out nothing: a point past the last plant is not
-- printed either
pub record IsTraced (p : Tables) (start : List (List ℤ)) (entries : List Logged) : Type 0 where
  pub starts : length start ≤ length p.plants
  pub told : (i : ℕ) (e : Logged) → At entries i e → IsTold p e

-- of two starts and histories of the same tables with the same text, the starts are the same and
-- the histories are
abbrev pub TextTellsHistory : Type 0
TextTellsHistory =
    (p : Tables) (start other_start : List (List ℤ)) (entries others : List Logged)
    → MeetsTableRules p → AreWords p
    → IsTraced p start entries → IsTraced p other_start others
    → trace_text p start entries ≡ trace_text p other_start others
    → (start ≡ other_start) × (entries ≡ others)

-- the text of a flight's history so far leaves out nothing
abbrev pub FlownHistoriesAreTold : Type 0
FlownHistoriesAreTold =
    (p : Tables) (jitter : ℕ) (f : Plan) (entries : List Logged) (Q : Position) → MeetsTableRules p
    → FlownSoFar p jitter f entries Q
    → IsTraced p f.start entries
