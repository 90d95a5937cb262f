use Rattle.sot_commands.proofs.OneAnswer.{refuted_once}
use Rattle.sot_commands.proofs.laws.refused_once.Goals as goal

pub returns : goal.returns
returns c = refuted_once
