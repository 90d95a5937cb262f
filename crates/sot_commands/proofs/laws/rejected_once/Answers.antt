use Rattle.sot_commands.proofs.OneFault.{rejected_once}
use Rattle.sot_commands.proofs.laws.rejected_once.Goals as goal

pub returns : goal.returns
returns c = rejected_once
