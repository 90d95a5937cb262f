use Rattle.sot_law_runs.proofs.Rows.{zero_keeps}
use Rattle.sot_law_runs.proofs.recovery_laws.rank_zero_keeps.Goals as goal

pub returns : goal.returns
returns c = zero_keeps
