use Rattle.sot_law_flights.proofs.Runs.{flown_run}
use Rattle.sot_law_flights.proofs.laws.histories_are_runs.Goals as goal

pub returns : goal.returns
returns c = flown_run
