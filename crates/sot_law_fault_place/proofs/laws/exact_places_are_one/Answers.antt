use Rattle.sot_law_fault_place.proofs.laws.exact_places_are_one.Goals as goal
use Rattle.sot_law_fault_place.proofs.OnePlace.{exact_places_are_one}

pub returns : goal.returns
returns c = exact_places_are_one
