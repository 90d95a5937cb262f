use Rattle.sot_replay.proofs.OneAnswer.{traces_are_not_refused}
use Rattle.sot_replay.proofs.laws.traces_are_not_refused.Goals as goal

pub returns : goal.returns
returns c = traces_are_not_refused
