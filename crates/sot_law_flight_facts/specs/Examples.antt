-- A flight of the running example, and the entries of its histories.
use Rattle.std.specs.Prelude.{ℤ, pos, Bool, Some, [], ◌∷◌}
use Rattle.sot_code.specs.Recorded.{in_slots}
use Rattle.sot_world.specs.declared.mode.Mode.TheVariants.{Ac}
use Rattle.sot_world.specs.HistoryEntry.{Logged, FireAt, DecideAt, TickAt}
use Rattle.sot_flight.specs.Plans.{Plan, Low, Script, Coded}

-- one tick from the point 0 with the disturbance at its low end; `fast` drafts 2, and `slow` has
-- its own code
abbrev pub line_flight : Plan
line_flight = record {
  horizon = 1;
  start = (pos 0 ∷ []) ∷ [];
  inputs = [];
  sways = Low ∷ [];
  crews = Script ((Some (pos 2) ∷ []) ∷ []) ∷ Coded ∷ [];
  events = 4;
  numbers = 2;
}

-- the flight of `line_flight` with no tick
abbrev pub instant_flight : Plan
instant_flight = record line_flight { horizon = 0; events = 3; numbers = 0 }

-- the module decides for its advanced node
abbrev pub decides : Logged
decides = DecideAt 0 0 Ac

-- `fast`, enabled or not, drafts a number
abbrev pub drafts : ℤ → Bool → Logged
drafts z enabled = FireAt 0 0 (in_slots (Some z ∷ [])) enabled

-- `slow`, enabled or not, drafts 0 by its own code
abbrev pub steers : Bool → Logged
steers enabled = FireAt 0 1 (in_slots (Some (pos 0) ∷ [])) enabled

-- the plant ticks with a disturbance to a point
abbrev pub ticks : ℤ → ℤ → Logged
ticks w x = TickAt 0 (w ∷ []) (x ∷ [])
