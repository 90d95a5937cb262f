-- Tables that look the same have the same histories of flights.
use Rattle.std.specs.Prelude.{◌≡◌, ℕ, List}
use Rattle.sot_lang.specs.Tables.{Tables}
use Rattle.sot_typing.specs.Resolved.{tables_seen}
use Rattle.sot_world.specs.HistoryEntry.{Logged}
use Rattle.sot_flight.specs.Plans.{Plan}
use Rattle.sot_board.specs.Flown.{Position, FlownSoFar, FlownBy}
use Rattle.sot_ordered_board.specs.Order.{FliesInOrder}

-- a history of a flight so far is one of the same flight of tables that look the same, and comes to
-- the same position
abbrev pub HistoriesAlikeSoFar : Type 0
HistoriesAlikeSoFar =
    (t u : Tables) (jitter : ℕ) (f : Plan) (entries : List Logged) (Q : Position)
    → tables_seen t ≡ tables_seen u
    → FlownSoFar t jitter f entries Q → FlownSoFar u jitter f entries Q

-- a whole history of a flight is a whole one of it by either of the tables
abbrev pub HistoriesAlike : Type 0
HistoriesAlike =
    (t u : Tables) (jitter : ℕ) (f : Plan) (entries : List Logged) → tables_seen t ≡ tables_seen u
    → FlownBy t jitter f entries → FlownBy u jitter f entries

-- and a history of it in order is one in order by either of the tables
abbrev pub OrdersAlike : Type 0
OrdersAlike =
    (t u : Tables) (jitter : ℕ) (f : Plan) (entries : List Logged) → tables_seen t ≡ tables_seen u
    → FliesInOrder t jitter f entries → FliesInOrder u jitter f entries
