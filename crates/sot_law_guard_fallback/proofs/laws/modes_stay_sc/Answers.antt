use Rattle.sot_law_guard_fallback.proofs.Talks.{stay_sc}
use Rattle.sot_law_guard_fallback.proofs.laws.modes_stay_sc.Goals as goal

pub returns : goal.returns
returns c = stay_sc
