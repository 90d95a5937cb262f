use Rattle.sot_law_equal_verdicts.proofs.Refusals.{refusals_alike}
use Rattle.sot_law_equal_verdicts.proofs.laws.refusals_are_alike.Goals as goal

pub returns : goal.returns
returns c = refusals_alike
