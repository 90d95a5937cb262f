-- The workers of the nodes that no guest flies, while a flight is flown, and what comes back of
-- them.
use Rattle.std.specs.Prelude.{ℕ, ◌≡◌, Bool, true, false, List, Option, None, Some}
use Rattle.atomic_table.specs.Seated.{TableId}
use Rattle.sot_tube.specs.Admitted.{Admitted}
use Rattle.sot_world.specs.HistoryEntry.{Logged}
use Rattle.sot_flight.specs.Plans.{Plan}
use Rattle.sot_turn.specs.Passes.{pass_lock, pass_ground}
use Rattle.sot_board.specs.Versions.{drafts_of}
use Rattle.sot_fly_worker.specs.declared.shift.Shift.{Shift}
use Rattle.sot_fly_worker.specs.Shifts.{IsReady}
use Rattle.sot_workers.specs.declared.lists.NodeList.{NodeList}
use Rattle.sot_ordered_board.specs.Crews.{IsOwn}
use Rattle.sot_workers.specs.declared.place.Station.{Station}
use Rattle.sot_workers.specs.declared.place.Station.TheVariants.{Guest, Caller, Thread}

module _ {C : Type 0} where
  -- a shift that has not begun, of this node
  pub record IsNodeShift (lock : TableId) (a : Admitted) (f : Plan) (n : ℕ) (shift : Shift C) :
      Type 0 where
    pub ready : IsReady lock shift
    pub ground : pass_ground shift.pass ≡ Some (a, f)
    pub node : shift.node ≡ n

  -- a shift that began in a thread, or whose pass stays
  abbrev pub IsSent : TableId → Shift C → Station C → Type 0
  IsSent lock began Guest = ⊥
  IsSent lock began (Caller pass) = pass_lock pass ≡ lock
  IsSent lock began (Thread child) = child.promise.0.value ≡ began

  -- a guest flies this node; or the pass of its job stays; or a shift of it began in a thread
  abbrev pub IsAt : TableId → Admitted → Plan → ℕ → Station C → Type 0
  IsAt lock a f n Guest = ¬ (IsOwn f n)
  IsAt lock a f n (Caller pass) = pass_lock pass ≡ lock
  IsAt lock a f n (Thread child) = IsNodeShift lock a f n child.promise.0.value

  abbrev pub has_thread : Station C → Bool
  has_thread Guest = false
  has_thread (Caller pass) = false
  has_thread (Thread child) = true

  -- a worker is at this node, and it is noted whether it has a thread
  abbrev pub IsStationed : TableId → Admitted → Plan → ℕ → Bool → Station C → Type 0
  IsStationed lock a f n away station = (away ≡ has_thread station) × IsAt lock a f n station

-- the list of a node is back where its worker had a thread, and it is the drafts of its firings
abbrev pub IsRelieved : List Logged → ℕ → Bool → Option NodeList → Type 0
IsRelieved history n away None = away ≡ false
IsRelieved history n away (Some list) =
    (list.node ≡ n) × (list.drafts.items ≡ drafts_of n history)
