use Rattle.sot_law_runs.proofs.Rows.{holds_stay_safe}
use Rattle.sot_law_runs.proofs.recovery_laws.holds_stay_safe.Goals as goal

pub returns : goal.returns
returns c = holds_stay_safe
