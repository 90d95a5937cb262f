use Rattle.sot_guard.proofs.Talks.{safe}
use Rattle.sot_guard.proofs.laws.trusted_sessions_are_safe.Goals as goal

pub returns : goal.returns
returns c = safe
