use Rattle.sot_law_flights.proofs.Told.{flown_stated}
use Rattle.sot_law_flights.proofs.laws.ticks_are_stated.Goals as goal

pub returns : goal.returns
returns c = flown_stated
