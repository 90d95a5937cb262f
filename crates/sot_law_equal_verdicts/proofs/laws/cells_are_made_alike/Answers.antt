-- What is found for a list is one thing.
use Rattle.sot_law_equal_verdicts.proofs.Certify.{cells_alike}
use Rattle.sot_law_equal_verdicts.proofs.laws.cells_are_made_alike.Goals as goal

pub returns : goal.returns
returns c = cells_alike
