-- Tables that look the same are well certified alike, since they are alike.
use Rattle.std.proofs.Common.{ap}
use Rattle.sot_law_equal_tables.specs.Laws.{CertifiedAlike}
use Rattle.sot_law_equal_tables.specs.UnplacedTables.{unplaced_tables}
use Rattle.sot_law_equal_tables.proofs.PlacelessCertified as placeless

pub certified_alike : CertifiedAlike
certified_alike t u jitter c d same cells_same well = placeless.certified_alike t u jitter c d (ap unplaced_tables same) cells_same well
