-- What contracts see of a board, and what its type keeps.
use Rattle.std.specs.Prelude.{ℕ, suc, ◌+◌, ◌<◌, ◌≤◌, ◌≡◌, List, length, slice_index_or}
use Rattle.std.specs.Prelude.{if◌then◌else◌}
use Rattle.sot_lists.specs.Places.{At}
use Rattle.sot_lang.specs.Tables.{Tables}
use Rattle.sot_tube.specs.Admitted.{Admitted}
use Rattle.sot_world.specs.HistoryEntry.{Logged}
use Rattle.sot_world.specs.State.{IsKept}
use Rattle.sot_flight.specs.Plans.{StatedInput, Plan}
use Rattle.sot_flight.specs.Fits.{FitsInput, FitsFlight}
use Rattle.sot_board.specs.Flown.{Position, fired_of, FlownSoFar}
use Rattle.sot_board.specs.Versions.{drafts_of, writes_topic, version}
use Rattle.sot_board.specs.Room.{HasRoom}

-- an accepted program, the flight that it flies, the history so far, and where the flight stands
pub record Standing : Type 0 where
  pub accepted : Admitted
  pub plan : Plan
  pub entries : List Logged
  pub position : Position

-- the flight is one of the program; the history is one of the flight so far, and leads to this
-- position, whose world keeps the invariant; it is not past the horizon, and no input to come is in
-- the past
pub record IsStanding (b : Standing) : Type 0 where
  pub guests : ℕ
  pub fits : FitsFlight b.accepted.program guests b.plan
  pub kept : IsKept b.accepted b.position.at
  pub flown : FlownSoFar b.accepted.program b.accepted.cert.jitter b.plan b.entries b.position
  pub in_time : b.position.at.time ≤ b.plan.horizon
  pub ahead : (i : ℕ) (x : StatedInput) → At b.position.inputs i x → b.position.at.time ≤ x.at
  pub inputs : (i : ℕ) (x : StatedInput) → At b.position.inputs i x
      → FitsInput b.accepted.program b.plan.horizon x
  pub ordered : (i : ℕ) (x y : StatedInput) → At b.position.inputs i x
      → At b.position.inputs (suc i) y → x.at ≤ y.at
  pub fired_each : length b.position.fired ≡ length b.accepted.program.nodes
  pub fired : (n : ℕ) → n < length b.accepted.program.nodes
      → fired_of b.position n ≡ length (drafts_of n b.entries)

-- beside that, the count of each topic is its version, and there is room for what is still to come
pub record HasStanding (b : Standing) (versions : List ℕ) (entries_left numbers_left : ℕ) : Type 0
  where
    pub standing : IsStanding b
    pub each : length versions ≡ length b.accepted.program.topics
    pub versions_are : (k : ℕ) → k < length b.accepted.program.topics
        → slice_index_or versions k 0 ≡ version b.accepted.program k b.entries
    pub room : HasRoom b.accepted.program b.plan.horizon b.position entries_left numbers_left
    pub events : length b.entries + entries_left ≡ b.plan.events

-- counts of topics that go on with an entry: one more for each topic that it writes
abbrev pub Counted : Tables → Logged → List ℕ → List ℕ → Type 0
Counted p entry versions versions' =
    (length versions' ≡ length versions)
    × ((k : ℕ) → k < length p.topics → slice_index_or versions' k 0
    ≡ (if writes_topic p k entry then suc (slice_index_or versions k 0) else slice_index_or versions
    k 0))
