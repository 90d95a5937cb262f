use Rattle.sot_replay.proofs.OneAnswer.{refused_once}
use Rattle.sot_replay.proofs.laws.lines_are_refused_once.Goals as goal

pub returns : goal.returns
returns c = refused_once
