use Rattle.sot_law_guard_fallback.proofs.Talks.{blind_ends}
use Rattle.sot_law_guard_fallback.proofs.laws.blind_ends_trust.Goals as goal

pub returns : goal.returns
returns c = blind_ends
