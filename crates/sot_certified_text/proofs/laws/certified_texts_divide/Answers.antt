use Rattle.sot_certified_text.proofs.Lines.{texts_divide}
use Rattle.sot_certified_text.proofs.laws.certified_texts_divide.Goals as goal

pub returns : goal.returns
returns c = texts_divide
