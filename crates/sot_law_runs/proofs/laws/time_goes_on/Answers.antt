use Rattle.sot_law_runs.proofs.Time.{time_goes_on}
use Rattle.sot_law_runs.proofs.laws.time_goes_on.Goals as goal

pub returns : goal.returns
returns c = time_goes_on
