-- The tables of a program without places are its tables without places.
use Rattle.sot_law_equal_tables.proofs.Tables.{tables_alike}
use Rattle.sot_law_equal_tables.proofs.places.tables_know_no_place.Goals as goal

pub returns : goal.returns
returns c = tables_alike
