-- A flight of the relay, for the worked history.
use Rattle.std.specs.Prelude.{ℤ, pos, true, Some, Bool, Option, List, [], ◌∷◌}
use Rattle.std.specs.Global.{Global}
use Rattle.sot_code.specs.Recorded.{in_slots}
use Rattle.sot_world.specs.Examples.{relay}
use Rattle.sot_world.specs.HistoryEntry.{Logged, InputAt, FireAt}
use Rattle.sot_flight.specs.Plans.{Plan, Coded}
use Rattle.sot_board.specs.Flown.{FlownBy}

-- no tick, one input of 5 at 0 on the relay's environment topic, and its node's own code
abbrev pub relay_flight : Plan
relay_flight = record {
  horizon = 0;
  start = [];
  inputs = record { at = 0; topic = 0; value = pos 5 ∷ [] } ∷ [];
  sways = [];
  crews = Coded ∷ [];
  events = 2;
  numbers = 2;
}

-- the node fires with this draft, enabled
abbrev pub copies : ℤ → Logged
copies z = FireAt 0 0 (in_slots (Some z ∷ [])) true

-- the input comes, and then the node copies it
abbrev pub relay_history : List Logged
relay_history = InputAt 0 0 (pos 5 ∷ []) ∷ copies (pos 5) ∷ []

-- the relay is flown with its input and then its firing
abbrev pub RelayIsFlown : Type 0
RelayIsFlown = (g : Global) → FlownBy (relay g) 0 relay_flight relay_history

-- the relay is not flown by a firing alone, whatever is drafted
abbrev pub NotWithoutInput : Type 0
NotWithoutInput =
    (g : Global) (slots : List (Option ℤ)) (enabled : Bool)
    → FlownBy (relay g) 0 relay_flight (FireAt 0 0 slots enabled ∷ []) → ⊥
