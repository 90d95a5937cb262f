use Rattle.sot_law_print_parse.proofs.Canonical.{canonical_text}
use Rattle.sot_law_print_parse.proofs.laws.canonical_texts_are_read_back.Goals as goal

pub returns : goal.returns
returns c = canonical_text
