use Rattle.sot_guard_protocol.proofs.Conversing.{talks_observed}
use Rattle.sot_guard_protocol.proofs.laws.trusted_talks_are_observed.Goals as goal

pub returns : goal.returns
returns c = talks_observed
