use Rattle.sot_certified_text.proofs.Written.{jittered_no_fault}
use Rattle.sot_certified_text.proofs.read_again.texts_with_jitter_have_no_fault.Goals as goal

pub returns : goal.returns
returns c = jittered_no_fault
