-- Lines with which the trace of a whole history of a flight begins.
use Rattle.std.specs.Prelude.{ℕ, ◌≡◌, ℤ, List, ◌++◌, Option, Some}
use Rattle.sot_lists.specs.Places.{At}
use Rattle.sot_lang.specs.Tables.{Tables}
use Rattle.sot_world.specs.HistoryEntry.{Logged, FireAt}
use Rattle.sot_flight.specs.Plans.{Plan, Guest}
use Rattle.sot_board.specs.Flown.{FlownBy}
use Rattle.sot_trace.specs.Traces.{trace_lines}
use Rattle.sot_trace_lines.specs.Bits.{Has64Bits}

-- a guest hands over a draft of numbers of 64 bits; what others draft is stated, or is what their
-- code gives
abbrev pub AreHandedOver : Plan → List Logged → Type 0
AreHandedOver f entries =
    (i time node index : ℕ) (draft : List (Option ℤ)) (enabled : _)
    → At entries i (FireAt time node draft enabled) → At f.crews node (Guest index)
    → (k : ℕ) (z : ℤ) → At draft k (Some z) → Has64Bits z

-- a whole history of the flight
abbrev pub IsFlown : Tables → ℕ → Plan → List Logged → Type 0
IsFlown p jitter f entries = FlownBy p jitter f entries × AreHandedOver f entries

-- these lines are the trace of this history
abbrev pub IsTraceOf : Tables → ℕ → Plan → List (List ℕ) → List Logged → Type 0
IsTraceOf p jitter f lines entries =
    IsFlown p jitter f entries × (lines ≡ trace_lines p f.start entries)

-- the trace of some history of the flight begins with these lines
abbrev pub GoesOn : Tables → ℕ → Plan → List (List ℕ) → Type 0
GoesOn p jitter f lines =
    (entries : List Logged) × (rest : List (List ℕ)) × IsFlown p jitter f entries
    × (trace_lines p f.start entries ≡ lines ++ rest)
