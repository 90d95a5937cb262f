use Rattle.sot_fly_worker.proofs.Histories.{answers_stay}
use Rattle.sot_fly_worker.proofs.laws.answers_stay.Goals as goal

pub returns : goal.returns
returns c = answers_stay
