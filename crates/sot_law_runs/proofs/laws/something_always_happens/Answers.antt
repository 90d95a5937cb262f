use Rattle.sot_law_runs.proofs.GoingOn.{something_always_happens}
use Rattle.sot_law_runs.proofs.laws.something_always_happens.Goals as goal

pub returns : goal.returns
returns c = something_always_happens
