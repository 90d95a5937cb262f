use Rattle.sot_law_flights.proofs.Runs.{flown_beginning}
use Rattle.sot_law_flights.proofs.laws.beginnings_are_histories.Goals as goal

pub returns : goal.returns
returns c = flown_beginning
