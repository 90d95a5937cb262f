use Rattle.std.proofs.Common.{◌≡◌, ◌+◌, ◌≤◌, Bool, List, vec_len, vec_capacity}
use Rattle.std.specs.Vec.Iter.{into_iter_items, into_iter_len}
use Rattle.sot_tube.specs.Admitted.{Admitted}
use Rattle.sot_flight.specs.Plans.{Plan}
use Rattle.sot_turn.specs.Prefixes.{IsPrefix}
use Rattle.sot_turn.specs.Passes.{lock_of, pass_lock, pass_ground, pass_seen}
use Rattle.sot_workers.specs.Stations.{IsStationed}
use Rattle.sot_workers.specs.Pairs.{EachFrom}
use Rattle.sot_workers.proofs.Coming.{AreComing}
use Rattle.sot_workers.proofs.Stations.{IsRelievedIn}
use Rattle.sot_workers.proofs.relief.relieve_each.Given as goal

-- the workers so far are relieved, and those to come are stationed
abbrev pub invariant-loop-station : goal.invariant-loop-station
invariant-loop-station g l = record {
  lock : pass_lock l.pass ≡ pass_lock l.initial.pass;
  ground : pass_ground l.pass ≡ pass_ground l.initial.pass;
  seen : IsPrefix (pass_seen l.initial.pass) (pass_seen l.pass);
  room : vec_len l.relieved + into_iter_len l.station-iterator ≤ vec_capacity l.relieved;
  stationed : (a : Admitted) (f : Plan) (away : List Bool) → EachFrom (IsStationed (lock_of l.turn) a f) 0 away (into_iter_items l.initial.station-iterator)
      → AreComing (IsStationed (lock_of l.turn) a f) (IsRelievedIn a f (pass_seen l.initial.pass)) away l.relieved.items
      (into_iter_items l.station-iterator);
}
