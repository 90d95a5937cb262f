-- Each condition of a certificate is carried from one table to the other.
use Rattle.sot_law_equal_tables.proofs.Certified.{certified_alike}
use Rattle.sot_law_equal_tables.proofs.laws.tables_are_certified_alike.Goals as goal

pub returns : goal.returns
returns c = certified_alike
