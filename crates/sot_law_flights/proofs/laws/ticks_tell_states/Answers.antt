use Rattle.sot_law_flights.proofs.Told.{flown_states}
use Rattle.sot_law_flights.proofs.laws.ticks_tell_states.Goals as goal

pub returns : goal.returns
returns c = flown_states
