-- Laws on flights that are flown in order.
use Rattle.std.specs.Prelude.{ℕ, ◌≡◌, List}
use Rattle.sot_lang.specs.Tables.{Tables}
use Rattle.sot_world.specs.HistoryEntry.{Logged}
use Rattle.sot_flight.specs.Plans.{Plan}
use Rattle.sot_flight.specs.Fits.{FitsFlight}
use Rattle.sot_board.specs.Flown.{FlownBy}
use Rattle.sot_ordered_board.specs.Crews.{HasNoGuests}
use Rattle.sot_ordered_board.specs.Order.{FliesInOrder}

-- what is flown in order is flown
abbrev pub OrderedAreFlown : Type 0
OrderedAreFlown =
    (p : Tables) (jitter : ℕ) (f : Plan) (history : List Logged) → FliesInOrder p jitter f history
    → FlownBy p jitter f history

-- a flight that no guest flies has one history in order
abbrev pub OneHistoryInOrder : Type 0
OneHistoryInOrder =
    (p : Tables) (jitter guests : ℕ) (f : Plan) (history other : List Logged)
    → FitsFlight p guests f → HasNoGuests f → FliesInOrder p jitter f history
    → FliesInOrder p jitter f other → history ≡ other
