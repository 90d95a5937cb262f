use Rattle.sot_certified_text.proofs.Modules.{read_back}
use Rattle.sot_certified_text.proofs.laws.certificates_read_back.Goals as goal

pub returns : goal.returns
returns c = read_back
