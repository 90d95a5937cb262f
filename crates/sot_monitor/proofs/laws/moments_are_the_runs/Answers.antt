use Rattle.sot_monitor.proofs.Told.{told_runs}
use Rattle.sot_monitor.proofs.laws.moments_are_the_runs.Goals as goal

pub returns : goal.returns
returns c = told_runs
