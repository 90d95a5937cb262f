use Rattle.sot_certified_text.proofs.Made.{made_writable}
use Rattle.sot_certified_text.proofs.laws.made_certificates_are_writable.Goals as goal

pub returns : goal.returns
returns c = made_writable
