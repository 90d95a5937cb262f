use Rattle.sot_law_guard_fallback.proofs.Talks.{outside_ends}
use Rattle.sot_law_guard_fallback.proofs.laws.outside_ends_trust.Goals as goal

pub returns : goal.returns
returns c = outside_ends
