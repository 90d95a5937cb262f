-- What became of the guests of a flight.
use Rattle.std.specs.Prelude.{ℕ, ◌≡◌, List, Option}
use Rattle.sot_lists.specs.Places.{At}
use Rattle.sot_tube.specs.Admitted.{Admitted}
use Rattle.sot_world.specs.HistoryEntry.{Logged}
use Rattle.sot_flight.specs.Plans.{Plan, Guest}
use Rattle.sot_fly_worker.specs.Askings.{Asking}
use Rattle.sot_fly_worker.specs.Answers.{Answered}
use Rattle.sot_workers.specs.Flying.{IsUnnamed}

module _ {C : Type 0} where
  -- each guest that the flight names, where it still tells its list, has answered each firing of
  -- its node, in order
  abbrev pub EachAnswered : (C → Option (List Asking)) → Admitted → Plan → List Logged → List C
      → List C → Type 0
  EachAnswered asked a f history before after =
      (n i : ℕ) (was now : C) → At f.crews n (Guest i) → At before i was → At after i now
      → Answered a.program a.cert.jitter f n history (asked was) (asked now)

  -- each guest that the flight does not name is the same
  abbrev pub EachUnnamedStays : Plan → List C → List C → Type 0
  EachUnnamedStays f before after =
      (i : ℕ) (was now : C) → IsUnnamed f i → At before i was → At after i now → now ≡ was
