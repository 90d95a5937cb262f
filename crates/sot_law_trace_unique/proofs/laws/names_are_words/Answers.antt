use Rattle.sot_law_trace_unique.proofs.Named.{names}
use Rattle.sot_law_trace_unique.proofs.laws.names_are_words.Goals as goal

pub returns : goal.returns
returns c = names
