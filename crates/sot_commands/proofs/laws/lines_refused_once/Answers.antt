use Rattle.sot_commands.proofs.OneAnswer.{lines_refused_once}
use Rattle.sot_commands.proofs.laws.lines_refused_once.Goals as goal

pub returns : goal.returns
returns c = lines_refused_once
