use Rattle.std.proofs.Common.{◌≡◌, ◌≤◌, List, length, vec_len, vec_capacity}
use Rattle.sot_tube.specs.Admitted.{Admitted}
use Rattle.sot_world.specs.HistoryEntry.{Logged}
use Rattle.sot_flight.specs.Plans.{Plan}
use Rattle.sot_workers.specs.Lists.{AreOwnLists}
use Rattle.sot_workers.specs.Pairs.{EachFrom}
use Rattle.sot_workers.specs.Sent.{IsDone}
use Rattle.sot_workers.specs.Back.{IsGuestBack, FliesOnce, AreListsBack}
use Rattle.sot_workers.proofs.back.put_back.Given as goal

-- the guests so far are back, and their lists at their nodes
abbrev pub invariant-loop-done : goal.invariant-loop-done
invariant-loop-done g l = record {
  guests : (a : Admitted) (f : Plan) (history : List Logged) (was : List _) → EachFrom (IsDone g.C.Controller.asked a f history) 0 was l.yielded
      → EachFrom (IsGuestBack g.C.Controller.asked a f history) 0 was l.guests.items;
  lists : (a : Admitted) (f : Plan) (history : List Logged) (was : List _) → EachFrom (IsDone g.C.Controller.asked a f history) 0 was l.yielded
      → AreOwnLists (length l.fn.lists.items) f l.fn.lists.items history → FliesOnce f
      → AreListsBack (length l.fn.lists.items) f (length was) l.lists.items history;
  count : vec_len l.guests ≡ length l.yielded;
  room : vec_len l.fn.dones ≤ vec_capacity l.guests;
}
