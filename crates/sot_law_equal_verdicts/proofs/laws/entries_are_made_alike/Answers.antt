-- At each place stand entries with the same boxes, of the same width, and both with their indices.
use Rattle.sot_law_equal_verdicts.proofs.Entries.{entries_alike}
use Rattle.sot_law_equal_verdicts.proofs.laws.entries_are_made_alike.Goals as goal

pub returns : goal.returns
returns c = entries_alike
