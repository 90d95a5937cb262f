use Rattle.sot_law_runs.proofs.Rows.{guarded_modules}
use Rattle.sot_law_runs.proofs.recovery_laws.guarded_modules.Goals as goal

pub returns : goal.returns
returns c = guarded_modules
