-- A certificate's text says the same of tables that look the same, since these are alike.
use Rattle.std.proofs.Common.{ap}
use Rattle.sot_law_equal_tables.specs.Laws.{CertificatesAlike}
use Rattle.sot_law_equal_tables.specs.UnplacedTables.{unplaced_tables}
use Rattle.sot_law_equal_tables.proofs.PlacelessCertificates as placeless

pub certificates_alike : CertificatesAlike
certificates_alike t u bytes same = placeless.certificates_alike t u bytes (ap unplaced_tables same)
