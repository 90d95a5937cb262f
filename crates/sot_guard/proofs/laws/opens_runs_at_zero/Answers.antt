use Rattle.sot_guard.proofs.Holding.{opens_runs_at_zero}
use Rattle.sot_guard.proofs.laws.opens_runs_at_zero.Goals as goal

pub returns : goal.returns
returns c = opens_runs_at_zero
