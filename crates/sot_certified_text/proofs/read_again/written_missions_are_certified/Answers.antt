-- The tables that are read are alike, and so is the certificate.
use Rattle.sot_certified_text.proofs.Written.{missions_certified}
use Rattle.sot_certified_text.proofs.read_again.written_missions_are_certified.Goals as goal

pub returns : goal.returns
returns c = missions_certified
