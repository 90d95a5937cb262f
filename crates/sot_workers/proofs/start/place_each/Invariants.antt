use Rattle.std.proofs.Common.{◌≡◌, ◌+◌, ◌≤◌, [], Some, length, vec_len, vec_capacity}
use Rattle.std.specs.Vec.Iter.{into_iter_items, into_iter_len}
use Rattle.sot_tube.specs.Admitted.{Admitted}
use Rattle.sot_turn.specs.Passes.{lock_of, pass_lock, pass_ground, pass_seen}
use Rattle.sot_workers.specs.Lists.{AreEmpty, HaveRoomIn}
use Rattle.sot_workers.specs.Flying.{IsFrom}
use Rattle.sot_workers.specs.Sent.{IsPlaced}
use Rattle.sot_workers.proofs.Coming.{AreComing, Same}
use Rattle.sot_workers.proofs.start.place_each.Given as goal

-- the guests so far are placed
abbrev pub invariant-loop-guest : goal.invariant-loop-guest
invariant-loop-guest g l = record {
  lock : pass_lock l.pass ≡ pass_lock l.initial.pass;
  ground : pass_ground l.pass ≡ pass_ground l.initial.pass;
  seen : pass_seen l.pass ≡ [];
  lists : AreEmpty (length l.flight.crews) l.lists.items;
  drafts : HaveRoomIn (pass_ground l.initial.pass) (IsFrom (vec_len l.places)) l.lists.items;
  room : vec_len l.places + into_iter_len l.guest-iterator ≤ vec_capacity l.places;
  count : vec_len l.places + into_iter_len l.guest-iterator ≡ into_iter_len l.initial.guest-iterator;
  placed : (a : Admitted) → pass_ground l.initial.pass ≡ Some (a, l.flight)
      → AreComing Same (IsPlaced g.C.Controller.asked (lock_of l.turn) a l.flight) (into_iter_items l.initial.guest-iterator) l.places.items
      (into_iter_items l.guest-iterator);
}
