use Rattle.sot_law_runs.proofs.Runs.{runs_hold}
use Rattle.sot_law_runs.proofs.recovery_laws.firings_are_holds.Goals as goal

pub returns : goal.returns
returns c = runs_hold
