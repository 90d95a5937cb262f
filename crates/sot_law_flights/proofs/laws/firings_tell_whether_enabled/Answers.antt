use Rattle.sot_law_flights.proofs.Modes.{enabled_told}
use Rattle.sot_law_flights.proofs.laws.firings_tell_whether_enabled.Goals as goal

pub returns : goal.returns
returns c = enabled_told
