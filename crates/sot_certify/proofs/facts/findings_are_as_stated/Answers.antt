use Rattle.sot_certify.proofs.WorkedFindings.{findings}
use Rattle.sot_certify.proofs.facts.findings_are_as_stated.Goals as goal

pub returns : goal.returns
returns c = findings
