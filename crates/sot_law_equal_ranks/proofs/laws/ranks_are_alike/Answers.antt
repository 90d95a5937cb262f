use Rattle.sot_law_equal_ranks.proofs.Ranks.{ranks_alike}
use Rattle.sot_law_equal_ranks.proofs.laws.ranks_are_alike.Goals as goal

pub returns : goal.returns
returns c = ranks_alike
