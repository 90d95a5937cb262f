use Rattle.sot_commands.proofs.OneAnswer.{accepted_once}
use Rattle.sot_commands.proofs.laws.accepted_once.Goals as goal

pub returns : goal.returns
returns c = accepted_once
