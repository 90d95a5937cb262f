use Rattle.sot_law_runs.proofs.Rows.{ranks_recover}
use Rattle.sot_law_runs.proofs.recovery_laws.ranks_recover.Goals as goal

pub returns : goal.returns
returns c = ranks_recover
