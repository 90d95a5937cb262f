use Rattle.sot_certified_text.proofs.Written.{jittered_passed}
use Rattle.sot_certified_text.proofs.read_again.missions_with_jitter_are_not_refused.Goals as goal

pub returns : goal.returns
returns c = jittered_passed
