use Rattle.sot_certify.proofs.Exact.{answers_are_one}
use Rattle.sot_certify.proofs.laws.answers_are_one.Goals as goal

pub returns : goal.returns
returns c = answers_are_one
