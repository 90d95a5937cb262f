-- Entries that can be printed.
use Rattle.std.specs.Prelude.{◌≡◌, ℕ, ◌<◌, List, length}
use Rattle.sot_lang.specs.declared.tables.TopicInfo.{TopicInfo}
use Rattle.sot_lang.specs.Tables.{Tables}
use Rattle.sot_lists.specs.Places.{At}
use Rattle.sot_world.specs.HistoryEntry.{Logged, InputAt, FireAt, DecideAt, TickAt}
use Rattle.sot_world.specs.Events.{noise_count}
use Rattle.sot_board.specs.Counts.{state_count}

-- an entry names what is there, and its lists have the lengths of what they are for
abbrev pub FitsEntry : Tables → Logged → Type 0
FitsEntry p (InputAt time topic value) =
    (info : TopicInfo) × At p.topics topic info × (length value ≡ info.count)
FitsEntry p (FireAt time node draft enabled) = node < length p.nodes
FitsEntry p (DecideAt time decider mode) = decider < length p.modules
FitsEntry p (TickAt time noise states) =
    (length noise ≡ noise_count p.plants) × (length states ≡ state_count p.plants)

-- each entry does
abbrev pub FitsHistory : Tables → List Logged → Type 0
FitsHistory p entries = (i : ℕ) (e : Logged) → At entries i e → FitsEntry p e
