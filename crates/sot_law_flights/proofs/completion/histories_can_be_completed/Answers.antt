use Rattle.sot_law_flights.proofs.FromStart.{histories_can_be_completed}
use Rattle.sot_law_flights.proofs.completion.histories_can_be_completed.Goals as goal

pub returns : goal.returns
returns c = histories_can_be_completed
