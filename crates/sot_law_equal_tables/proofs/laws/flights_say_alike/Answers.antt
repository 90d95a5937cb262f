-- What a flight says is read from what tables look like.
use Rattle.sot_law_equal_tables.proofs.Flights.{flights_alike}
use Rattle.sot_law_equal_tables.proofs.laws.flights_say_alike.Goals as goal

pub returns : goal.returns
returns c = flights_alike
