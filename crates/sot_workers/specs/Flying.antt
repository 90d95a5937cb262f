-- Which nodes of a flight the caller fires, and which guests the flight does not name.
use Rattle.std.specs.Prelude.{ℕ, ◌<◌, ◌≤◌, ◌≡◌, Bool, false, List, slice_index_or}
use Rattle.sot_lists.specs.Places.{At}
use Rattle.sot_flight.specs.Plans.{Plan, Guest}
use Rattle.sot_ordered_board.specs.Crews.{IsOwn}

-- no guest flies the node, and its worker has no thread, so the caller fires it
abbrev pub IsMine : Plan → List Bool → ℕ → Type 0
IsMine f away n = IsOwn f n × (slice_index_or away n false ≡ false)

-- no guest flies the node, and where it is one of the first so many, the caller fires it
abbrev pub IsMineAmong : ℕ → List Bool → Plan → ℕ → Type 0
IsMineAmong first away f n = IsOwn f n × (n < first → slice_index_or away n false ≡ false)

-- no guest before the one of this number flies the node
abbrev pub IsFrom : ℕ → Plan → ℕ → Type 0
IsFrom number f n = (i : ℕ) → At f.crews n (Guest i) → number ≤ i

-- no node names the guest of this number
abbrev pub IsUnnamed : Plan → ℕ → Type 0
IsUnnamed f number = (n : ℕ) → At f.crews n (Guest number) → ⊥
