use Rattle.sot_law_runs.proofs.Trusts.{runs_recover}
use Rattle.sot_law_runs.proofs.recovery_laws.runs_recover.Goals as goal

pub returns : goal.returns
returns c = runs_recover
