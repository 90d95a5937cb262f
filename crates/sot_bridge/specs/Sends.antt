-- How often something may come over a bridge.
use Rattle.std.specs.Prelude.{ℕ, ◌+◌, ◌==◌, ◌||◌, Bool, false, if◌then◌else◌, List, [], ◌∷◌}
use Rattle.sot_lang.specs.declared.tables.NodeInfo.{NodeInfo}
use Rattle.sot_lang.specs.Tables.{Tables}
use Rattle.sot_flight.specs.Counts.{due_count}
use Rattle.sot_board.specs.Versions.{topic_of}

-- some of these scalars is one of the topic
abbrev pub has_topic : Tables → ℕ → List ℕ → Bool
has_topic p topic [] = false
has_topic p topic (k ∷ ks) = (topic_of p k == topic) || has_topic p topic ks

-- how often those of these nodes that write the topic are due up to and including the horizon
abbrev pub due_sends : Tables → ℕ → ℕ → List NodeInfo → ℕ
due_sends p topic horizon [] = 0
due_sends p topic horizon (n ∷ ns) =
    if has_topic p topic n.writes.items then due_count n.period n.offset horizon
    + due_sends p topic horizon ns else due_sends p topic horizon ns

-- the most sends of a flight of the program on a topic
abbrev pub most_sends : Tables → ℕ → ℕ → ℕ
most_sends p topic horizon = due_sends p topic horizon p.nodes
