-- What a shift stands on, and what became of one that began.
use Rattle.std.specs.Prelude.{ℕ, ◌<◌, ◌≡◌, ◌⊎◌, true, false, List, [], ◌∷◌, ◌++◌, length, Option}
use Rattle.std.specs.Prelude.{None, Some, vec_capacity}
use Rattle.atomic_table.specs.Seated.{TableId}
use Rattle.sot_lists.specs.Places.{At}
use Rattle.sot_eval_flat.specs.FlatForm.{IsFormOf}
use Rattle.sot_tube.specs.Admitted.{Admitted}
use Rattle.sot_flight.specs.Plans.{Plan, Guest}
use Rattle.sot_turn.specs.Passes.{pass_lock, pass_ground, pass_seen, pass_added}
use Rattle.sot_world.specs.HistoryEntry.{Logged, InputAt, FireAt, DecideAt, TickAt}
use Rattle.sot_board.specs.Flown.{FlownBy}
use Rattle.sot_board.specs.Versions.{drafts_of}
use Rattle.sot_fly_worker.specs.declared.shift.Shift.{Shift}
use Rattle.sot_fly_worker.specs.Rooms.{HasRoomFor}
use Rattle.sot_fly_worker.specs.Askings.{Asking}
use Rattle.sot_fly_worker.specs.Answers.{Answered}

-- there is a guest exactly where the flight has one at this node
abbrev pub HasItsGuest : {C : Type 0} → Plan → ℕ → Option C → Type 0
HasItsGuest f n None = (i : ℕ) → At f.crews n (Guest i) → ⊥
HasItsGuest f n (Some guest) = (i : ℕ) × At f.crews n (Guest i)

-- A shift at work: its pass knows a program with its certificate and a flight, of which its node
-- and its guest are, its drafts are those of the node's firings in what the pass has seen, their
-- list has room for those of all firings, and the flat form, where it has one, is that of its node.
pub record IsAtWork {C : Type 0} (shift : Shift C) : Type 0 where
  pub accepted : Admitted
  pub plan : Plan
  pub ground : pass_ground shift.pass ≡ Some (accepted, plan)
  pub there : shift.node < length accepted.program.nodes
  pub guest : HasItsGuest plan shift.node shift.guest
  pub drafts : shift.drafts.items ≡ drafts_of shift.node (pass_seen shift.pass)
  pub room : HasRoomFor accepted.program.nodes plan.horizon shift.node (vec_capacity shift.drafts)
  pub form : IsFormOf accepted.program shift.node shift.form

-- A shift of this lock that may begin: its node has not fired in what its pass has seen.
pub record IsReady {C : Type 0} (lock : TableId) (shift : Shift C) : Type 0 where
  pub at_work : IsAtWork shift
  pub lock_is : pass_lock shift.pass ≡ lock
  pub no_drafts : shift.drafts.items ≡ []
  pub unfinished : shift.finished ≡ false

-- there is a guest exactly where there was one, and what both tell is so related
abbrev pub EachGuest : {C : Type 0} → (Option (List Asking) → Option (List Asking) → Type 0)
    → (C → Option (List Asking)) → Option C → Option C → Type 0
EachGuest Relates asked None None = Unit {0}
EachGuest Relates asked (Some before) (Some after) = Relates (asked before) (asked after)
EachGuest Relates asked None (Some after) = ⊥
EachGuest Relates asked (Some before) None = ⊥

-- each of the entries is a firing of the node
abbrev pub AreFirings : ℕ → List Logged → Type 0
AreFirings n [] = Unit {0}
AreFirings n (FireAt time k draft enabled ∷ entries) = (k ≡ n) × AreFirings n entries
AreFirings n (InputAt time topic value ∷ entries) = ⊥
AreFirings n (DecideAt time m mode ∷ entries) = ⊥
AreFirings n (TickAt time noise states ∷ entries) = ⊥

-- What became of a shift that began: it is at work for the same node, at the same lock and ground;
-- what it has added to the history since are firings of its node, and all that there were; its
-- guest was asked once a firing of the node in what its pass has seen; and where it is finished,
-- its pass has seen a whole history of the flight.
pub record IsOnShift {C : Type 0} (asked : C → Option (List Asking)) (began now : Shift C) : Type 0
  where
    pub at_work : IsAtWork now
    pub node : now.node ≡ began.node
    pub lock : pass_lock now.pass ≡ pass_lock began.pass
    pub ground : pass_ground now.pass ≡ pass_ground began.pass
    pub own : List Logged
    pub added : pass_added now.pass ≡ pass_added began.pass ++ own
    pub only_firings : AreFirings now.node own
    pub all_firings : now.drafts.items ≡ began.drafts.items ++ drafts_of now.node own
    pub guest : EachGuest (Answered at_work.accepted.program at_work.accepted.cert.jitter
        at_work.plan
        now.node (pass_seen now.pass)) asked began.guest now.guest
    pub finished : now.finished ≡ true
        → FlownBy at_work.accepted.program at_work.accepted.cert.jitter
        at_work.plan (pass_seen now.pass)

-- What became of a shift whose work ended: it has not begun, and is as it was, or it is finished.
pub record HasWorked {C : Type 0} (asked : C → Option (List Asking)) (began now : Shift C) : Type 0
  where
    pub on_shift : IsOnShift asked began now
    pub ended : (now ≡ began) ⊎ (now.finished ≡ true)
