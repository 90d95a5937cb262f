-- Each step is one of the other tables.
use Rattle.sot_law_equal_flights.proofs.Histories.{so_far, whole, ordered}
use Rattle.sot_law_equal_flights.proofs.laws.histories_are_alike.Goals as goal

pub returns : goal.returns
returns c = record { so_far = so_far; whole = whole; order = ordered }
