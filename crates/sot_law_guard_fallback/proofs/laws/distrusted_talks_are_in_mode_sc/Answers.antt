use Rattle.sot_law_guard_fallback.proofs.Talks.{in_sc}
use Rattle.sot_law_guard_fallback.proofs.laws.distrusted_talks_are_in_mode_sc.Goals as goal

pub returns : goal.returns
returns c = in_sc
