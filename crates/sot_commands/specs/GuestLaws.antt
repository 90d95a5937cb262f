-- Laws on what becomes of guests.
use Rattle.std.specs.Prelude.{◌≡◌, ◌⊎◌, ℕ, ℤ, List, ◌++◌, Option, Some}
use Rattle.sot_lists.specs.Places.{At}
use Rattle.sot_flight.specs.Plans.{Guest}
use Rattle.sot_fly_worker.specs.Askings.{Asking}
use Rattle.sot_fly_worker.specs.Answers.{HasAnswered}
use Rattle.sot_workers.specs.Flying.{IsUnnamed}
use Rattle.sot_lang.specs.Tables.{Tables}
use Rattle.sot_world.specs.HistoryEntry.{Logged}
use Rattle.sot_trace.specs.Traces.{trace_text}
use Rattle.sot_commands.specs.Guests.{Flew, IsNothing, SaysHolds, SaysFails}

-- what may stand behind a trace
abbrev pub MayStandBehind : List ℕ → Type 0
MayStandBehind behind = IsNothing behind ⊎ SaysHolds behind ⊎ SaysFails behind

-- what is written of a history tells where the trace ends, and what stands behind it
abbrev pub TracesEndOnce : Type 0
TracesEndOnce =
    (t u : Tables) (start other_start : List (List ℤ)) (xs ys : List Logged) (behind other : List ℕ)
    → MayStandBehind behind → MayStandBehind other
    → trace_text t start xs ++ behind ≡ trace_text u other_start ys ++ other
    → (trace_text t start xs ≡ trace_text u other_start ys) × (behind ≡ other)

module _ {C : Type 0} (asked : C → Option (List Asking)) where
  -- two accounts of one written trace are of one flight and one history: bytes and text decide
  -- which firings the guests answered
  abbrev pub FlewOnce : Type 0
  FlewOnce =
      (guests : ℕ) (bytes text : List ℕ) (before after other_before other_after : List C)
      (x : Flew asked guests bytes text before after)
      (y : Flew asked guests bytes text other_before other_after)
      → (x.plan ≡ y.plan) × (x.flew.history ≡ y.flew.history)

  -- a guest that flies a node, where it tells its list, has answered the firings of the node in the
  -- history that was written
  abbrev pub NamedAreAsked : Type 0
  NamedAreAsked =
      (guests : ℕ) (bytes text : List ℕ) (before after : List C)
      (x : Flew asked guests bytes text before after) (n i : ℕ) (was now : C) (list : List Asking)
      → At x.plan.crews n (Guest i) → At before i was → At after i now → asked now ≡ Some list
      → HasAnswered x.mission.tables x.mission.cert.jitter x.plan n x.flew.history (asked was) list

  -- one that no node of this flight names is as it was
  abbrev pub OthersStay : Type 0
  OthersStay =
      (guests : ℕ) (bytes text : List ℕ) (before after : List C)
      (x : Flew asked guests bytes text before after) (i : ℕ) (was now : C) → IsUnnamed x.plan i
      → At before i was → At after i now → now ≡ was
