use Rattle.sot_law_fault_place.proofs.laws.programs_have_no_fault.Goals as goal
use Rattle.sot_law_fault_place.proofs.OnePlace.{programs_have_no_fault}

pub returns : goal.returns
returns c = programs_have_no_fault
