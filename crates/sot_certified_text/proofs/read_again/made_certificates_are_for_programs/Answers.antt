use Rattle.sot_certified_text.proofs.Written.{made_for}
use Rattle.sot_certified_text.proofs.read_again.made_certificates_are_for_programs.Goals as goal

pub returns : goal.returns
returns c = made_for
