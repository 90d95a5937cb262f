use Rattle.sot_law_flights.proofs.Modes.{modes_told}
use Rattle.sot_law_flights.proofs.laws.decisions_tell_modes.Goals as goal

pub returns : goal.returns
returns c = modes_told
