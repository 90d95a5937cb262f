use Rattle.sot_law_print_parse.proofs.Canonical.{told_apart}
use Rattle.sot_law_print_parse.proofs.laws.canonical_texts_tell_programs_apart.Goals as goal

pub returns : goal.returns
returns c = told_apart
