use Rattle.sot_law_bridge_answers.proofs.Refused.{refuses_like_fly}
use Rattle.sot_law_bridge_answers.proofs.laws.refuses_like_fly.Goals as goal

pub returns : goal.returns
returns c = refuses_like_fly
