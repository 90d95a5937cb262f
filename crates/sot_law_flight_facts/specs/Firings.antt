-- What histories of flights tell of firings and decisions.
use Rattle.std.specs.Prelude.{ℕ, suc, ◌==◌, if◌then◌else◌, List, [], ◌∷◌, ◌+◌, ◌<◌, length}
use Rattle.sot_lists.specs.Places.{At}
use Rattle.sot_lang.specs.declared.tables.NodeInfo.{NodeInfo}
use Rattle.sot_lang.specs.declared.tables.ModuleInfo.{ModuleInfo}
use Rattle.sot_lang.specs.Tables.{Tables}
use Rattle.sot_calendar.specs.Due.{IsDueCount}
use Rattle.sot_world.specs.Configurations.{is_left, is_left_dm}
use Rattle.sot_world.specs.HistoryEntry.{Logged, InputAt, FireAt, DecideAt, TickAt}
use Rattle.sot_flight.specs.Plans.{Plan}
use Rattle.sot_board.specs.Flown.{Position, FlownSoFar, FlownBy}
use Rattle.sot_board.specs.Versions.{drafts_of}
use Rattle.sot_law_runs.specs.Firings.{one_if}

-- how many decisions of module m entries tell
abbrev pub decisions_told : ℕ → List Logged → ℕ
decisions_told m [] = 0
decisions_told m (InputAt time topic value ∷ xs) = decisions_told m xs
decisions_told m (FireAt time node draft enabled ∷ xs) = decisions_told m xs
decisions_told m (DecideAt time k mode ∷ xs) =
    if k == m then suc (decisions_told m xs) else decisions_told m xs
decisions_told m (TickAt time noise states ∷ xs) = decisions_told m xs

-- a history of a flight so far tells of a node as many firings as it has had due times, but for one
-- that is left; and so for the decisions of a module. Offsets and the jitter are below the periods
abbrev pub FlightsFireWhatIsDue : Type 0
FlightsFireWhatIsDue =
    (p : Tables) (jitter : ℕ) (f : Plan) (entries : List Logged) (Q : Position)
    → FlownSoFar p jitter f entries Q →
    ((n : ℕ) (node : NodeInfo) → At p.nodes n node → node.offset < node.period
    → jitter < node.period →
    IsDueCount node.period node.offset Q.at.time
    (length (drafts_of n entries) + one_if (is_left Q.at n)))
    × ((m : ℕ) (a : ModuleInfo) → At p.modules m a → a.offset < a.period → jitter < a.period →
    IsDueCount a.period a.offset Q.at.time (decisions_told m entries + one_if (is_left_dm Q.at m)))

-- a whole history tells as many as there are due times from 0 to the horizon
abbrev pub WholeFlightsFireAllDue : Type 0
WholeFlightsFireAllDue =
    (p : Tables) (jitter : ℕ) (f : Plan) (entries : List Logged) → FlownBy p jitter f entries →
    ((n : ℕ) (node : NodeInfo) → At p.nodes n node → node.offset < node.period
    → jitter < node.period → IsDueCount node.period node.offset f.horizon
    (length (drafts_of n entries)))
    × ((m : ℕ) (a : ModuleInfo) → At p.modules m a → a.offset < a.period → jitter < a.period
    → IsDueCount a.period a.offset f.horizon (decisions_told m entries))
