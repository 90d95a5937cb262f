use Rattle.sot_law_runs.proofs.OneRank.{ranks_are_one}
use Rattle.sot_law_runs.proofs.recovery_laws.ranks_are_one.Goals as goal

pub returns : goal.returns
returns c = ranks_are_one
