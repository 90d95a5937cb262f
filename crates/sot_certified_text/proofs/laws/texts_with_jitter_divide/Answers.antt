use Rattle.sot_certified_text.proofs.Lines.{jittered_texts_divide}
use Rattle.sot_certified_text.proofs.laws.texts_with_jitter_divide.Goals as goal

pub returns : goal.returns
returns c = jittered_texts_divide
