use Rattle.sot_law_flights.proofs.Possible.{possible_has_step}
use Rattle.sot_law_flights.proofs.completion.possible_has_a_step.Goals as goal

pub returns : goal.returns
returns c = possible_has_step
