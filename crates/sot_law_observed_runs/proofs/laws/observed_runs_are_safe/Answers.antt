use Rattle.sot_law_observed_runs.proofs.Main.{observed_runs}
use Rattle.sot_law_observed_runs.proofs.laws.observed_runs_are_safe.Goals as goal

pub returns : goal.returns
returns c = observed_runs
