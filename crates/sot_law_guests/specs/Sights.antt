-- When guests saw what they were asked on.
use Rattle.std.specs.Prelude.{ℕ, ℤ, ◌+◌, ◌<◌, ◌≤◌, ◌≡◌, Bool, List, ◌∷◌, ◌++◌, Option, Some, length}
use Rattle.std.specs.Prelude.{map}
use Rattle.sot_lists.specs.Places.{At}
use Rattle.sot_lang.specs.declared.tables.NodeInfo.{NodeInfo}
use Rattle.sot_lang.specs.Tables.{Tables}
use Rattle.sot_lang.specs.Readings.{reading}
use Rattle.sot_calendar.specs.Due.{IsDue}
use Rattle.sot_tube.specs.Admitted.{Admitted}
use Rattle.sot_world.specs.HistoryEntry.{Logged, FireAt}
use Rattle.sot_flight.specs.Plans.{Plan, Guest}
use Rattle.sot_board.specs.Flown.{Position, FlownSoFar, FlownBy}
use Rattle.sot_board.specs.Versions.{drafts_of}
use Rattle.sot_fly_worker.specs.Askings.{Asking}
use Rattle.sot_fly_worker.specs.Answers.{FitsFiring}
use Rattle.sot_workers.specs.Asked.{EachAnswered}
use Rattle.sot_law_guests.specs.Laws.{draft_given}

-- These numbers were there in time for the firing number k, from 0 on, of the node n in a history:
-- the node read them in a position of the flight after k firings of it; it was due by then, and
-- fires later, by the deadline of that due time.
pub record WereSeenInTime (p : Tables) (jitter : ℕ) (f : Plan) (n : ℕ) (node : NodeInfo)
    (history : List Logged) (k : ℕ) (values : List ℤ) : Type 0 where
  -- the entries up to where the numbers were seen, those from there to the firing, and those after
  -- it
  pub first : List Logged
  pub between : List Logged
  pub rest : List Logged
  pub time : ℕ
  pub draft : List (Option ℤ)
  pub enabled : Bool
  pub history_is : history ≡ first ++ (between ++ FireAt time n draft enabled ∷ rest)
  -- the node had fired k times when they were seen, and no more when it fires
  pub had_fired : length (drafts_of n first) ≡ k
  pub still : length (drafts_of n (first ++ between)) ≡ k
  -- where the flight stood when they were seen, and where it stands when the node fires
  pub seen : Position
  pub firing : Position
  pub seen_at : FlownSoFar p jitter f first seen
  pub fires_at : FlownSoFar p jitter f (first ++ between) firing
  pub values_are : values ≡ reading node seen.at.scalars seen.at.points
  -- from a due time to its deadline
  pub due : ℕ
  pub is_due : IsDue node.period node.offset due
  pub after_due : due ≤ seen.at.time
  pub later : seen.at.time ≤ firing.at.time
  pub in_time : firing.at.time ≤ due + jitter
  -- without jitter the plants are where they were seen
  pub points : jitter ≡ 0 → firing.at.points ≡ seen.at.points

-- in a history of a flight so far, what an asking saw that fits a firing was there in time for it;
-- the offset and the jitter are below the period
abbrev pub SeenAreRecent : Type 0
SeenAreRecent =
    (p : Tables) (jitter : ℕ) (f : Plan) (n : ℕ) (node : NodeInfo) (history : List Logged)
    (Q : Position) (k : ℕ) (one : Asking)
    → At p.nodes n node → node.offset < node.period → jitter < node.period
    → FlownSoFar p jitter f history Q
    → FitsFiring p jitter f n history k one → WereSeenInTime p jitter f n node history k one.values

-- A list that was told has grown by one asking a firing of the node, in the history's order; each
-- gives the draft of its firing, and saw what was there in time for it.
pub record HasFollowed (p : Tables) (jitter : ℕ) (f : Plan) (n : ℕ) (node : NodeInfo)
    (history : List Logged) (before : Option (List Asking)) (after : List Asking) : Type 0 where
  pub first : List Asking
  pub more : List Asking
  pub before_is : before ≡ Some first
  pub after_is : after ≡ first ++ more
  pub drafts : map (draft_given p n) more ≡ drafts_of n history
  pub seen : (k : ℕ) (one : Asking) → At more k one
      → WereSeenInTime p jitter f n node history k one.values

-- each guest that a flight names, where it still tells its list, has followed the firings of its
-- node; here a guest is what it tells
abbrev pub GuestsAreAnswered : Type 0
GuestsAreAnswered =
    (a : Admitted) (f : Plan) (history : List Logged) (before after : List (Option (List Asking)))
    → FlownBy a.program a.cert.jitter f history
    → EachAnswered (λ guest. guest) a f history before after
    → (n i : ℕ) (node : NodeInfo) (was : Option (List Asking)) (now : List Asking)
    → At f.crews n (Guest i) → At a.program.nodes n node → node.offset < node.period
    → a.cert.jitter < node.period
    → At before i was → At after i (Some now)
    → HasFollowed a.program a.cert.jitter f n node history was now
