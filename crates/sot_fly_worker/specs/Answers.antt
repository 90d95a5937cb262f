-- Which askings the firings of a node answer.
use Rattle.std.specs.Prelude.{ℕ, ℤ, ◌≡◌, Bool, true, List, [], ◌∷◌, ◌++◌, Option, None, Some}
use Rattle.std.specs.Prelude.{length, take}
use Rattle.sot_lists.specs.Places.{At}
use Rattle.sot_lang.specs.declared.tables.NodeInfo.{NodeInfo}
use Rattle.sot_lang.specs.Tables.{Tables}
use Rattle.sot_lang.specs.Readings.{reading}
use Rattle.sot_code.specs.Recorded.{in_slots}
use Rattle.sot_world.specs.Configurations.{is_left}
use Rattle.sot_world.specs.Events.{slot_count}
use Rattle.sot_world.specs.HistoryEntry.{Logged, FireAt}
use Rattle.sot_flight.specs.Plans.{Plan}
use Rattle.sot_board.specs.Flown.{Position, FlownSoFar}
use Rattle.sot_board.specs.Versions.{drafts_of}
use Rattle.sot_fly_worker.specs.Askings.{Asking}

-- An asking fits the firing number k, from 0 on, of the node n in a history.
pub record FitsFiring (p : Tables) (jitter : ℕ) (f : Plan) (n : ℕ) (history : List Logged) (k : ℕ)
    (one : Asking) : Type 0 where
  -- the entries up to some position of the flight, those from there to the firing, and those after
  -- it
  pub first : List Logged
  pub between : List Logged
  pub rest : List Logged
  pub time : ℕ
  pub draft : List (Option ℤ)
  pub enabled : Bool
  pub history_is : history ≡ first ++ (between ++ FireAt time n draft enabled ∷ rest)
  -- the node had fired k times, and fired no other time between
  pub number : length (drafts_of n first) ≡ k
  pub no_other : drafts_of n between ≡ []
  -- in this position the node is left to fire, and what was seen are the numbers that it reads
  -- there
  pub position : Position
  pub flown : FlownSoFar p jitter f first position
  pub left : is_left position.at n ≡ true
  pub info : NodeInfo
  pub is : At p.nodes n info
  pub values : one.values ≡ reading info position.at.scalars position.at.points
  -- the firing's draft is the asking's, in the slots of the scalars that the node writes
  pub draft_is : draft ≡ in_slots (take (slot_count p n) one.draft)

-- A list of askings that has grown by one asking a firing of the node, in the history's order, each
-- of which fits its firing.
pub record HasAnswered (p : Tables) (jitter : ℕ) (f : Plan) (n : ℕ) (history : List Logged)
    (before : Option (List Asking)) (after : List Asking) : Type 0 where
  pub first : List Asking
  pub more : List Asking
  pub before_is : before ≡ Some first
  pub after_is : after ≡ first ++ more
  pub count : length more ≡ length (drafts_of n history)
  pub fits : (k : ℕ) (one : Asking) → At more k one → FitsFiring p jitter f n history k one

-- the list of askings has answered a node's firings, where it is told afterwards; where it is not,
-- nothing is said of it
abbrev pub Answered : Tables → ℕ → Plan → ℕ → List Logged → Option (List Asking)
    → Option (List Asking) → Type 0
Answered p jitter f n history before None = Unit {0}
Answered p jitter f n history before (Some after) = HasAnswered p jitter f n history before after
