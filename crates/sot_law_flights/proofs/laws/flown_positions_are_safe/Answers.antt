use Rattle.sot_law_flights.proofs.Runs.{flown_safe}
use Rattle.sot_law_flights.proofs.laws.flown_positions_are_safe.Goals as goal

pub returns : goal.returns
returns c = flown_safe
