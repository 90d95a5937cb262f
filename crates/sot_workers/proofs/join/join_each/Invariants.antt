use Rattle.std.proofs.Common.{◌≡◌, ◌+◌, ◌≤◌, List, vec_len, vec_capacity}
use Rattle.std.specs.Vec.Iter.{into_iter_items, into_iter_len}
use Rattle.sot_tube.specs.Admitted.{Admitted}
use Rattle.sot_flight.specs.Plans.{Plan}
use Rattle.sot_turn.specs.Prefixes.{IsPrefix}
use Rattle.sot_turn.specs.Passes.{lock_of, pass_lock, pass_ground, pass_seen}
use Rattle.sot_workers.specs.Sent.{IsPlaced}
use Rattle.sot_workers.specs.Pairs.{EachFrom}
use Rattle.sot_workers.proofs.Coming.{AreComing}
use Rattle.sot_workers.proofs.Placing.{IsDoneIn}
use Rattle.sot_workers.proofs.join.join_each.Given as goal

-- the guests so far are done, and those to come are placed
abbrev pub invariant-loop-place : goal.invariant-loop-place
invariant-loop-place g l = record {
  lock : pass_lock l.pass ≡ pass_lock l.initial.pass;
  ground : pass_ground l.pass ≡ pass_ground l.initial.pass;
  seen : IsPrefix (pass_seen l.initial.pass) (pass_seen l.pass);
  room : vec_len l.dones + into_iter_len l.place-iterator ≤ vec_capacity l.dones;
  placed : (a : Admitted) (f : Plan) (guests : List _) → EachFrom (IsPlaced g.C.Controller.asked (lock_of l.turn) a f) 0 guests
      (into_iter_items l.initial.place-iterator)
      → AreComing (IsPlaced g.C.Controller.asked (lock_of l.turn) a f) (IsDoneIn g.C.Controller.asked a f (pass_seen l.initial.pass)) guests l.dones.items
      (into_iter_items l.place-iterator);
}
