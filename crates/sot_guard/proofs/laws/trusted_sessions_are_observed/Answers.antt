use Rattle.sot_guard.proofs.Talks.{observed}
use Rattle.sot_guard.proofs.laws.trusted_sessions_are_observed.Goals as goal

pub returns : goal.returns
returns c = observed
