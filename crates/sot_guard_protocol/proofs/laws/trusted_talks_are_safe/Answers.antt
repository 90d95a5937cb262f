use Rattle.sot_guard_protocol.proofs.Conversing.{talks_safe}
use Rattle.sot_guard_protocol.proofs.laws.trusted_talks_are_safe.Goals as goal

pub returns : goal.returns
returns c = talks_safe
