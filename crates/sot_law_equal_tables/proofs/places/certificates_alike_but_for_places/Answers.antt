-- What a certificate says is read from what tables look like, without their expressions.
use Rattle.sot_law_equal_tables.proofs.PlacelessCertificates.{certificates_alike}
use Rattle.sot_law_equal_tables.proofs.places.certificates_alike_but_for_places.Goals as goal

pub returns : goal.returns
returns c = certificates_alike
