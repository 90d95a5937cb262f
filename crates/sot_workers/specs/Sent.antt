-- Where the guests of a flight are while it is flown, and what became of them.
use Rattle.std.specs.Prelude.{ℕ, ◌≡◌, Bool, List, length, Option, None, Some}
use Rattle.atomic_table.specs.Seated.{TableId}
use Rattle.sot_lists.specs.Places.{At}
use Rattle.sot_tube.specs.Admitted.{Admitted}
use Rattle.sot_world.specs.HistoryEntry.{Logged}
use Rattle.sot_flight.specs.Plans.{Plan, Guest}
use Rattle.sot_turn.specs.Prefixes.{IsPrefix}
use Rattle.sot_turn.specs.Passes.{pass_ground}
use Rattle.sot_board.specs.Flown.{FlownBy}
use Rattle.sot_board.specs.Versions.{drafts_of}
use Rattle.sot_fly_worker.specs.declared.shift.Shift.{Shift}
use Rattle.sot_fly_worker.specs.Askings.{Asking}
use Rattle.sot_fly_worker.specs.Answers.{Answered}
use Rattle.sot_fly_worker.specs.Shifts.{IsReady, IsOnShift, HasWorked}
use Rattle.sot_workers.specs.declared.lists.NodeList.{NodeList}
use Rattle.sot_workers.specs.declared.place.Job.{Job}
use Rattle.sot_workers.specs.declared.place.Job.TheVariants as job
use Rattle.sot_workers.specs.declared.place.Place.{Place}
use Rattle.sot_workers.specs.declared.place.Place.TheVariants.{Stays, Out, Here}
use Rattle.sot_workers.specs.declared.place.Done.{Done}
use Rattle.sot_workers.specs.Flying.{IsUnnamed}
use Rattle.sot_workers.specs.Lists.{AreOwnLists, AreMine}
use Rattle.sot_workers.specs.Pairs.{EachFrom}

-- the caller's pass: its ground is this program with its certificate and this flight, which is one
-- of the program; and its lists are those of what it has seen
pub record IsCallers (a : Admitted) (f : Plan) (away : List Bool)
    (ground : Option (Admitted × Plan)) (seen : List Logged) (lists : List NodeList) : Type 0 where
  pub ground_is : ground ≡ Some (a, f)
  pub own : AreMine (length a.program.nodes) f away lists seen

-- what was seen, or a beginning of it, is a whole history of the flight
abbrev pub HasSeenWhole : Admitted → Plan → List Logged → List Logged → Type 0
HasSeenWhole a f whole seen = FlownBy a.program a.cert.jitter f whole × IsPrefix whole seen

module _ {C : Type 0} where
  -- a shift that has not begun, of the node that the guest of this number flies
  pub record IsShiftOf (lock : TableId) (a : Admitted) (f : Plan) (number : ℕ) (guest : C)
      (shift : Shift C) : Type 0 where
    pub ready : IsReady lock shift
    pub ground : pass_ground shift.pass ≡ Some (a, f)
    pub crew : At f.crews shift.node (Guest number)
    pub carries : shift.guest ≡ Some guest

  -- a guest is to stay where no node names it, and else to leave with a shift of its node
  abbrev pub IsJob : TableId → Admitted → Plan → ℕ → C → Job C → Type 0
  IsJob lock a f number guest (job.Stays same) = (same ≡ guest) × IsUnnamed f number
  IsJob lock a f number guest (job.Leaves shift) = IsShiftOf lock a f number guest shift

module _ {C : Type 0} (asked : C → Option (List Asking)) where
  -- a shift that was started, or that came back
  abbrev pub IsStarted : Shift C → Place C → Type 0
  IsStarted began (Stays guest) = ⊥
  IsStarted began (Out child) = child.promise.0.value ≡ began
  IsStarted began (Here None) = ⊥
  IsStarted began (Here (Some now)) = HasWorked asked began now

  -- a guest stays, or is out with a shift that began, or with such a shift here
  abbrev pub IsPlaced : TableId → Admitted → Plan → ℕ → C → Place C → Type 0
  IsPlaced lock a f number guest (Stays same) = (same ≡ guest) × IsUnnamed f number
  IsPlaced lock a f number guest (Out child) = IsShiftOf lock a f number guest child.promise.0.value
  IsPlaced lock a f number guest (Here None) = ⊥
  IsPlaced lock a f number guest (Here (Some now)) =
      (began : Shift C) × IsShiftOf lock a f number guest began × IsOnShift asked began now

  -- a guest is back: from its node, with the node's list, and asked once a firing of the node; or
  -- it stayed, as it was, since no node names it
  abbrev pub IsBack : Admitted → Plan → List Logged → ℕ → C → C → Option NodeList → Type 0
  IsBack a f history number was now None = (now ≡ was) × IsUnnamed f number
  IsBack a f history number was now (Some list) =
      At f.crews list.node (Guest number) × (list.drafts.items ≡ drafts_of list.node history)
      × Answered a.program a.cert.jitter f list.node history (asked was) (asked now)

  abbrev pub IsDone : Admitted → Plan → List Logged → ℕ → C → Done C → Type 0
  IsDone a f history number was done = IsBack a f history number was done.guest done.list

  -- a whole history of the flight was seen: the caller's own lists are those of it, and each guest
  -- is done
  pub record AreBack (a : Admitted) (f : Plan) (guests : List C) (seen : List Logged)
      (lists : List NodeList) (dones : List (Done C)) : Type 0 where
    pub whole : List Logged
    pub seen_whole : HasSeenWhole a f whole seen
    pub own : AreOwnLists (length a.program.nodes) f lists whole
    pub each : EachFrom (IsDone a f whole) 0 guests dones
