use Rattle.sot_certify.proofs.Verdicts.{refusals_are_the_verdicts}
use Rattle.sot_certify.proofs.laws.refusals_are_the_verdicts.Goals as goal

pub returns : goal.returns
returns c = refusals_are_the_verdicts
