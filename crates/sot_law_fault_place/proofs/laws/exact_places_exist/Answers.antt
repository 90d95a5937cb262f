use Rattle.sot_law_fault_place.proofs.laws.exact_places_exist.Goals as goal
use Rattle.sot_law_fault_place.proofs.ExactPlacesExist.{exact_places_exist}

pub returns : goal.returns
returns c = exact_places_exist
