use Rattle.std.proofs.Common.{◌≡◌, ◌≤◌, [], Some, length, vec_len, vec_capacity}
use Rattle.sot_tube.specs.Admitted.{Admitted}
use Rattle.sot_turn.specs.Passes.{lock_of, pass_lock, pass_ground, pass_seen}
use Rattle.sot_workers.specs.Flying.{IsMineAmong}
use Rattle.sot_workers.specs.Forms.{AreFormsOf}
use Rattle.sot_workers.specs.Lists.{AreEmpty, HaveRoomIn}
use Rattle.sot_workers.specs.Pairs.{EachFrom}
use Rattle.sot_workers.specs.Stations.{IsStationed}
use Rattle.sot_workers.proofs.station.station_each.Given as goal

-- the workers of the nodes so far are stationed
abbrev pub invariant-loop-place : goal.invariant-loop-place
invariant-loop-place g l = record {
  lock : pass_lock l.pass ≡ pass_lock l.initial.pass;
  ground : pass_ground l.pass ≡ pass_ground l.initial.pass;
  seen : pass_seen l.pass ≡ [];
  lists : AreEmpty (length l.flight.crews) l.lists.items;
  drafts : HaveRoomIn (pass_ground l.initial.pass) (IsMineAmong l.place l.away.items) l.lists.items;
  count : vec_len l.stations ≡ l.place;
  same : vec_len l.away ≡ l.place;
  room : length l.flight.crews ≤ vec_capacity l.stations;
  away : length l.flight.crews ≤ vec_capacity l.away;
  forms : (a : Admitted) → pass_ground l.initial.pass ≡ Some (a, l.flight) → AreFormsOf a.program l.forms.items;
  stationed : (a : Admitted) → pass_ground l.initial.pass ≡ Some (a, l.flight)
      → EachFrom (IsStationed (lock_of l.turn) a l.flight) 0 l.away.items l.stations.items;
}
