use Rattle.sot_law_guard_fallback.proofs.Talks.{asks_safe_nodes}
use Rattle.sot_law_guard_fallback.proofs.laws.end_of_trust_asks_safe_nodes.Goals as goal

pub returns : goal.returns
returns c = asks_safe_nodes
