use Rattle.sot_law_guard_fallback.proofs.Talks.{instants}
use Rattle.sot_law_guard_fallback.proofs.laws.distrusted_instants_are_safe.Goals as goal

pub returns : goal.returns
returns c = instants
