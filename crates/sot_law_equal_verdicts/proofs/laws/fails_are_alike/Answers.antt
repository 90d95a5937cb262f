-- The first condition that fails is one, and so is the first list that cannot be made.
use Rattle.sot_law_equal_verdicts.proofs.Certify.{fails_alike}
use Rattle.sot_law_equal_verdicts.proofs.laws.fails_are_alike.Goals as goal

pub returns : goal.returns
returns c = fails_alike
