use Rattle.sot_certify.proofs.Worked.{cuts}
use Rattle.sot_certify.proofs.facts.cuts_are_as_stated.Goals as goal

pub returns : goal.returns
returns c = cuts
