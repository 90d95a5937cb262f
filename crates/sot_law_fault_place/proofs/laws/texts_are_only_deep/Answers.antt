use Rattle.sot_law_fault_place.proofs.laws.texts_are_only_deep.Goals as goal
use Rattle.sot_law_fault_place.proofs.OnePlace.{texts_are_only_deep}

pub returns : goal.returns
returns c = texts_are_only_deep
