use Rattle.sot_commands.proofs.OneAnswer.{unflown_told_once}
use Rattle.sot_commands.proofs.laws.unflown_told_once.Goals as goal

pub returns : goal.returns
returns c = unflown_told_once
