use Rattle.sot_law_fault_place.proofs.laws.deep_comes_before.Goals as goal
use Rattle.sot_law_fault_place.proofs.OnePlace.{deep_comes_before}

pub returns : goal.returns
returns c = deep_comes_before
