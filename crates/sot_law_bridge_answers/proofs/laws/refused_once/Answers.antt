use Rattle.sot_law_bridge_answers.proofs.Refused.{refused_once}
use Rattle.sot_law_bridge_answers.proofs.laws.refused_once.Goals as goal

pub returns : goal.returns
returns c = refused_once
