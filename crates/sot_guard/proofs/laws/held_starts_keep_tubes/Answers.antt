use Rattle.sot_guard.proofs.Holding.{held_starts_keep_tubes}
use Rattle.sot_guard.proofs.laws.held_starts_keep_tubes.Goals as goal

pub returns : goal.returns
returns c = held_starts_keep_tubes
