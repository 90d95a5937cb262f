use Rattle.sot_law_guard_fallback.proofs.Talks.{ends}
use Rattle.sot_law_guard_fallback.proofs.laws.trust_ends_by_an_outside.Goals as goal

pub returns : goal.returns
returns c = ends
