-- A program without places has the faults of the program, nowhere.
use Rattle.sot_law_equal_tables.proofs.Faultless.{faultless_same}
use Rattle.sot_law_equal_tables.proofs.places.typing_knows_no_place.Goals as goal

pub returns : goal.returns
returns c = faultless_same
