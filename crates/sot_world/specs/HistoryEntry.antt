-- What contracts see of a history.
use Rattle.std.specs.Prelude.{ℕ, ℤ, Bool, List, Option}
use Rattle.sot_world.specs.declared.mode.Mode.{Mode}

-- an event as it is recorded: its time, what it was, and what it led to
pub data Logged : Type 0 where
  InputAt : (time topic : ℕ) (value : List ℤ) → Logged
  FireAt : (time node : ℕ) (draft : List (Option ℤ)) (enabled : Bool) → Logged
  DecideAt : (time decider : ℕ) (mode : Mode) → Logged
  TickAt : (time : ℕ) (noise states : List ℤ) → Logged

-- the entries so far, and the room left: for so many entries, and for so many numbers of values,
-- disturbances and states
pub record Story : Type 0 where
  pub entries : List Logged
  pub entries_left : ℕ
  pub numbers_left : ℕ
