-- Room for the drafts of a node.
use Rattle.std.specs.Prelude.{ℕ, ◌≤◌, List}
use Rattle.sot_lists.specs.Places.{At}
use Rattle.sot_lang.specs.declared.tables.NodeInfo.{NodeInfo}
use Rattle.sot_flight.specs.Counts.{due_count}

-- room for a draft each time that node n of these is due, up to and including the horizon
abbrev pub HasRoomFor : List NodeInfo → ℕ → ℕ → ℕ → Type 0
HasRoomFor nodes horizon n room =
    (node : NodeInfo) → At nodes n node → due_count node.period node.offset horizon ≤ room
