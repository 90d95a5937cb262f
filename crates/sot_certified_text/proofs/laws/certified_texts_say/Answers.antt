use Rattle.sot_certified_text.proofs.Made.{texts_say}
use Rattle.sot_certified_text.proofs.laws.certified_texts_say.Goals as goal

pub returns : goal.returns
returns c = texts_say
