-- A list that is made does not stop, and conditions that pass do not refuse.
use Rattle.sot_law_equal_verdicts.proofs.Certify.{certify_alike}
use Rattle.sot_law_equal_verdicts.proofs.laws.tables_certify_alike.Goals as goal

pub returns : goal.returns
returns c = certify_alike
