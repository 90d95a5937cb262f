-- What a certificate says is read from what tables look like.
use Rattle.sot_law_equal_tables.proofs.Certificates.{certificates_alike}
use Rattle.sot_law_equal_tables.proofs.laws.certificates_say_alike.Goals as goal

pub returns : goal.returns
returns c = certificates_alike
