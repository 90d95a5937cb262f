use Rattle.sot_law_observed_runs.proofs.Main.{runs_observed}
use Rattle.sot_law_observed_runs.proofs.laws.runs_are_observed.Goals as goal

pub returns : goal.returns
returns c = runs_observed
