use Rattle.std.proofs.Common.{ℕ, Bool, List, length}
use Rattle.sot_turn.specs.Prefixes.{IsPrefix}
use Rattle.sot_world.specs.HistoryEntry.{Logged}
use Rattle.sot_flight.specs.Plans.{Plan}
use Rattle.sot_workers.specs.Lists.{AreMine}
use Rattle.sot_workers.specs.Pairs.{EachFrom}
use Rattle.sot_workers.specs.Stations.{IsRelieved}
use Rattle.sot_workers.proofs.Stations.{AreRelieved}
use Rattle.sot_workers.proofs.relief.put_each.Given as goal

-- the lists so far are at their nodes
abbrev pub invariant-loop-list : goal.invariant-loop-list
invariant-loop-list l =
    (count : ℕ) (f : Plan) (away was : List Bool) (history : List Logged) → EachFrom (IsRelieved history) 0 was l.yielded
    → IsPrefix was away → AreMine count f away l.fn.lists.items history → AreRelieved count f away (length was) l.lists.items history
