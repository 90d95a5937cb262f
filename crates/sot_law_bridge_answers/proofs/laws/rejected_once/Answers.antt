use Rattle.sot_law_bridge_answers.proofs.Rejected.{rejected_once}
use Rattle.sot_law_bridge_answers.proofs.laws.rejected_once.Goals as goal

pub returns : goal.returns
returns c = rejected_once
