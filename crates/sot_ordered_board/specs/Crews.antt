-- Which nodes of a flight guests fly.
use Rattle.std.specs.Prelude.{ℕ}
use Rattle.sot_lists.specs.Places.{At}
use Rattle.sot_flight.specs.Plans.{Plan, Guest}

-- no node of the flight is flown by a guest
abbrev pub HasNoGuests : Plan → Type 0
HasNoGuests f = (n i : ℕ) → At f.crews n (Guest i) → ⊥

-- no guest flies the node
abbrev pub IsOwn : Plan → ℕ → Type 0
IsOwn f n = (i : ℕ) → At f.crews n (Guest i) → ⊥
