use Rattle.std.proofs.Common.{◌≡◌, List, Some}
use Rattle.sot_tube.specs.Admitted.{Admitted}
use Rattle.sot_flight.specs.Plans.{Plan}
use Rattle.sot_turn.specs.Passes.{lock_of, pass_lock, pass_ground, pass_seen}
use Rattle.sot_workers.specs.Flying.{IsMine}
use Rattle.sot_workers.specs.Lists.{HaveRoomIn}
use Rattle.sot_workers.specs.Pairs.{EachFrom}
use Rattle.sot_workers.specs.Sent.{IsCallers, IsPlaced}
use Rattle.sot_workers.proofs.watch.watch.Given as goal

abbrev pub invariant-loop : goal.invariant-loop
invariant-loop g l = record {
  lock : pass_lock l.pass ≡ pass_lock l.initial.pass;
  ground : pass_ground l.pass ≡ pass_ground l.initial.pass;
  callers : (a : Admitted) (f : Plan) → pass_ground l.initial.pass ≡ Some (a, f) → IsCallers a f l.away (pass_ground l.pass) (pass_seen l.pass) l.lists.items;
  room : HaveRoomIn (pass_ground l.initial.pass) (λ f. IsMine f l.away) l.lists.items;
  places : (a : Admitted) (f : Plan) (guests : List _) → EachFrom (IsPlaced g.C.Controller.asked (lock_of l.turn) a f) 0 guests l.fn.places.items
      → EachFrom (IsPlaced g.C.Controller.asked (lock_of l.turn) a f) 0 guests l.places.items;
}
