-- The program of a canonical text is the same.
use Rattle.sot_law_equal_tables.proofs.Formatted.{formatted_alike}
use Rattle.sot_law_equal_tables.proofs.places.formatted_programs_are_alike.Goals as goal

pub returns : goal.returns
returns c = formatted_alike
