use Rattle.sot_law_fault_place.proofs.laws.places_are_exact.Goals as goal
use Rattle.sot_law_fault_place.proofs.ExactPlaces.{places_are_exact}

-- src/laws.rt:5:1
pub returns : goal.returns
returns c = places_are_exact
