use Rattle.sot_certified_text.proofs.TidyPrograms.{canonical_plain}
use Rattle.sot_certified_text.proofs.plain.canonical_texts_are_plain.Goals as goal

pub returns : goal.returns
returns c = canonical_plain
