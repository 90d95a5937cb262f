-- What the calls of a board tell.
use Rattle.std.specs.Prelude.{ℕ, ℤ, Bool, ◌≡◌, List, [], ◌∷◌, ◌++◌, length}
use Rattle.sot_lang.specs.Tables.{Tables}
use Rattle.sot_world.specs.HistoryEntry.{Logged, FireAt}
use Rattle.sot_world.specs.Steps.{Event, Input}
use Rattle.sot_world.specs.Steps as steps
use Rattle.sot_world.specs.Calendar.{NothingLeft}
use Rattle.sot_flight.specs.Plans.{StatedInput}
use Rattle.sot_board.specs.Flown.{Position, NoInputDue, Flies}
use Rattle.sot_board.specs.Standing.{Standing}
use Rattle.sot_board.specs.declared.receipt.Receipt.{Receipt}

-- the next input is due now
abbrev pub InputDue : Position → Type 0
InputDue P =
    (x : StatedInput) × (rest : List StatedInput) × (P.inputs ≡ x ∷ rest) × (x.at ≡ P.at.time)

-- nothing that is left has its deadline now, and no input is due now
abbrev pub MayTickNow : Tables → ℕ → Position → Type 0
MayTickNow p jitter P = steps.MayTick p jitter P.at × NoInputDue P

-- nothing is left to fire, to decide or to input now
abbrev pub IsSettled : Tables → Position → Type 0
IsSettled p P = NothingLeft p P.at × NoInputDue P

-- the flight goes on by this event, of which this entry tells: the history has that entry more, and
-- program and flight stay
pub record Logs (old new : Standing) (event : Event) (entry : Logged) : Type 0 where
  pub flies : Flies old.accepted.program old.accepted.cert.jitter old.plan old.position entry
      new.position
  pub event_is : flies.event ≡ event
  pub entries : new.entries ≡ old.entries ++ entry ∷ []
  pub accepted : new.accepted ≡ old.accepted
  pub plan : new.plan ≡ old.plan

-- the next input comes
abbrev pub LogsInput : Standing → Standing → Type 0
LogsInput old new =
    (topic : ℕ) × (value : List ℤ) × (entry : Logged) × Logs old new (Input topic value) entry

-- a node fires, by this event; the receipt has the place of the entry in the history, and its draft
pub record LogsFiring (old new : Standing) (node : ℕ) (event : Event) (receipt : Receipt) : Type 0
  where
    pub enabled : Bool
    pub logs : Logs old new event (FireAt old.position.at.time node receipt.draft enabled)
    pub place : receipt.place ≡ length old.entries
