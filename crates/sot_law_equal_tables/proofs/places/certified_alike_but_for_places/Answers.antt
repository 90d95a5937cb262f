-- Each condition of a certificate is carried from one table to the other.
use Rattle.sot_law_equal_tables.proofs.PlacelessCertified.{certified_alike}
use Rattle.sot_law_equal_tables.proofs.places.certified_alike_but_for_places.Goals as goal

pub returns : goal.returns
returns c = certified_alike
