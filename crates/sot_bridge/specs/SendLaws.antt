-- What a history sends on a topic.
use Rattle.std.specs.Prelude.{ℕ, ℤ, Bool, false, ◌&&◌, if◌then◌else◌, List, [], ◌∷◌, ◌++◌}
use Rattle.std.specs.Prelude.{map, take, drop, slice_get}
use Rattle.std.specs.Option.{option_map_or}
use Rattle.sot_lang.specs.Tables.{Tables}
use Rattle.sot_world.specs.HistoryEntry.{Logged, InputAt, FireAt, DecideAt, TickAt}
use Rattle.sot_flight.specs.Relayed.{Send}
use Rattle.sot_board.specs.Versions.{publishes_on}
use Rattle.sot_trace.specs.Lines.{writes_of}
use Rattle.sot_history_state.specs.Scenes.{first_of, scalars_after}

-- the value of a topic, where the scalars have these numbers: those of all its scalars, in order
abbrev pub value_of : Tables → ℕ → List ℤ → List ℤ
value_of p topic xs =
    take (option_map_or (λ x. x.count) (slice_get p.topics topic) 0) (drop (first_of p topic) xs)

-- an entry is a firing that publishes some number of the topic
abbrev pub sends_on : Tables → ℕ → Logged → Bool
sends_on p topic (InputAt time k value) = false
sends_on p topic (FireAt time n draft enabled) =
    enabled && publishes_on p topic (writes_of p n) draft
sends_on p topic (DecideAt time m mode) = false
sends_on p topic (TickAt time noise states) = false

abbrev pub time_of : Logged → ℕ
time_of (InputAt time topic value) = time
time_of (FireAt time n draft enabled) = time
time_of (DecideAt time m mode) = time
time_of (TickAt time noise states) = time

-- what an entry sends, after which the scalars have these numbers: of a firing that publishes on
-- the topic its time and the topic's whole value, and nothing of others
abbrev pub sent_by : Tables → ℕ → Logged → List ℤ → List Send
sent_by p topic e xs =
    if sends_on p topic e then record { at = time_of e; value = value_of p topic xs } ∷ [] else []

-- what entries send, where the scalars have these numbers
abbrev pub sends_from : Tables → ℕ → List ℤ → List Logged → List Send
sends_from p topic xs [] = []
sends_from p topic xs (e ∷ es) =
    sent_by p topic e (scalars_after p e xs) ++ sends_from p topic (scalars_after p e xs) es

-- what a history sends, from the opening on
abbrev pub sends_of : Tables → ℕ → List Logged → List Send
sends_of p topic entries = sends_from p topic (map (λ i. i.init) p.scalars) entries
