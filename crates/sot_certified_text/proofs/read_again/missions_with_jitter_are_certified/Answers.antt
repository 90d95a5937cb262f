use Rattle.sot_certified_text.proofs.Written.{jittered_certified}
use Rattle.sot_certified_text.proofs.read_again.missions_with_jitter_are_certified.Goals as goal

pub returns : goal.returns
returns c = jittered_certified
