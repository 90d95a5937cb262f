use Rattle.sot_law_guard_fallback.proofs.Talks.{ignored_same}
use Rattle.sot_law_guard_fallback.proofs.laws.ignored_lines_change_nothing.Goals as goal

pub returns : goal.returns
returns c = ignored_same
