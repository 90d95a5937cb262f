-- What leaves with the guests of a flight, and what is there once they are back.
use Rattle.std.specs.Prelude.{◌≡◌, List, [], length, vec_len, Option, Some}
use Rattle.atomic_table.specs.Seated.{TableId}
use Rattle.sot_tube.specs.Admitted.{Admitted}
use Rattle.sot_flight.specs.Plans.{Plan}
use Rattle.sot_turn.specs.Passes.{pass_lock, pass_ground, pass_seen}
use Rattle.sot_fly_worker.specs.Askings.{Asking}
use Rattle.sot_workers.specs.declared.crewed.Leaving.{Leaving}
use Rattle.sot_workers.specs.declared.crewed.Landed.{Landed}
use Rattle.sot_workers.specs.Flying.{IsFrom}
use Rattle.sot_workers.specs.Forms.{AreFormsOf}
use Rattle.sot_workers.specs.Lists.{HaveRoomIn}
use Rattle.sot_workers.specs.Rooms.{HasRoom}
use Rattle.sot_workers.specs.Sent.{AreBack}

-- a pass of this lock that knows the flight and a program of which it is, and has seen no entry;
-- room for the guests and for all drafts, and flat forms of the program's bodies
pub record IsLeaving {C : Type 0} (table : TableId) (f : Plan) (leaving : Leaving C) : Type 0 where
  pub lock : pass_lock leaving.pass ≡ table
  pub ground : (a : Admitted) × (pass_ground leaving.pass ≡ Some (a, f))
      × (length f.crews ≡ length a.program.nodes)
  pub seen : pass_seen leaving.pass ≡ []
  pub room : HasRoom (length f.crews) (vec_len leaving.room.guests) leaving.room
  pub lists : HaveRoomIn (pass_ground leaving.pass) (IsFrom 0) leaving.room.lists.items
  pub forms : (a : Admitted) → pass_ground leaving.pass ≡ Some (a, f)
      → AreFormsOf a.program leaving.room.forms.items

-- a pass of the same lock and ground, with all guests back
pub record HasLanded {C : Type 0} (asked : C → Option (List Asking)) (f : Plan)
    (leaving : Leaving C) (landed : Landed C) : Type 0 where
  pub lock : pass_lock landed.pass ≡ pass_lock leaving.pass
  pub ground : pass_ground landed.pass ≡ pass_ground leaving.pass
  pub back : (a : Admitted) → pass_ground leaving.pass ≡ Some (a, f)
      → AreBack asked a f leaving.room.guests.items (pass_seen landed.pass) landed.lists.items
      landed.dones.items
