use Rattle.sot_fly_worker.proofs.Histories.{whole_histories_end}
use Rattle.sot_fly_worker.proofs.laws.whole_histories_end.Goals as goal

pub returns : goal.returns
returns c = whole_histories_end
