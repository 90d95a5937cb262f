use Rattle.sot_replay.proofs.OneAnswer.{traced_once}
use Rattle.sot_replay.proofs.laws.lines_are_traced_once.Goals as goal

pub returns : goal.returns
returns c = traced_once
