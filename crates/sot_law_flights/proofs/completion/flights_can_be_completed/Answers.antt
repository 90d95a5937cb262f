use Rattle.sot_law_flights.proofs.Completing.{flights_can_be_completed}
use Rattle.sot_law_flights.proofs.completion.flights_can_be_completed.Goals as goal

pub returns : goal.returns
returns c = flights_can_be_completed
