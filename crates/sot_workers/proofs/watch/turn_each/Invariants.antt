use Rattle.std.proofs.Common.{List}
use Rattle.sot_tube.specs.Admitted.{Admitted}
use Rattle.sot_flight.specs.Plans.{Plan}
use Rattle.sot_turn.specs.Passes.{lock_of}
use Rattle.sot_workers.specs.Pairs.{EachFrom}
use Rattle.sot_workers.specs.Sent.{IsPlaced}
use Rattle.sot_workers.proofs.watch.turn_each.Given as goal

abbrev pub invariant-loop-i : goal.invariant-loop-i
invariant-loop-i g l =
    (a : Admitted) (f : Plan) (guests : List _) → EachFrom (IsPlaced g.C.Controller.asked (lock_of l.turn) a f) 0 guests l.fn.places.items
    → EachFrom (IsPlaced g.C.Controller.asked (lock_of l.turn) a f) 0 guests l.places.items
