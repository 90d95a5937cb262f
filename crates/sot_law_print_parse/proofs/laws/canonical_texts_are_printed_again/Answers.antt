use Rattle.sot_law_print_parse.proofs.Canonical.{printed_again}
use Rattle.sot_law_print_parse.proofs.laws.canonical_texts_are_printed_again.Goals as goal

pub returns : goal.returns
returns c = printed_again
