-- What is put back at the end of a flight.
use Rattle.std.specs.Prelude.{ℕ, ◌<◌, ◌≡◌, List, Option, None, Some, slice_set}
use Rattle.sot_lists.specs.Places.{At}
use Rattle.sot_tube.specs.Admitted.{Admitted}
use Rattle.sot_world.specs.HistoryEntry.{Logged}
use Rattle.sot_flight.specs.Plans.{Plan, Guest}
use Rattle.sot_board.specs.Versions.{drafts_of}
use Rattle.sot_fly_worker.specs.Askings.{Asking}
use Rattle.sot_workers.specs.declared.lists.NodeList.{NodeList}
use Rattle.sot_ordered_board.specs.Crews.{IsOwn}
use Rattle.sot_workers.specs.Lists.{HasNodes}
use Rattle.sot_workers.specs.Sent.{IsBack}

-- a guest is back from some node, or it stayed
abbrev pub IsGuestBack : {C : Type 0} → (C → Option (List Asking)) → Admitted → Plan → List Logged
    → ℕ → C → C → Type 0
IsGuestBack asked a f history number was now =
    (list : Option NodeList) × IsBack asked a f history number was now list

-- no guest flies two nodes
abbrev pub FliesOnce : Plan → Type 0
FliesOnce f = (m n i : ℕ) → At f.crews m (Guest i) → At f.crews n (Guest i) → m ≡ n

-- the lists once one that came back, if any, is put at its node
abbrev pub lists_after : List NodeList → Option NodeList → List NodeList
lists_after lists None = lists
lists_after lists (Some list) = slice_set lists list.node list

-- the lists of the nodes that the caller fires, and of those that the first so many guests fly, are
-- the drafts of their firings
pub record AreListsBack (count : ℕ) (f : Plan) (guests : ℕ) (lists : List NodeList)
    (history : List Logged) : Type 0 where
  pub nodes : HasNodes count lists
  pub own : (n : ℕ) (list : NodeList) → At lists n list → IsOwn f n
      → list.drafts.items ≡ drafts_of n history
  pub flown : (n i : ℕ) (list : NodeList) → At lists n list → At f.crews n (Guest i) → i < guests
      → list.drafts.items ≡ drafts_of n history
