use Rattle.sot_bridge.proofs.Few.{sends_few}
use Rattle.sot_bridge.proofs.laws.sends_are_few.Goals as goal

pub returns : goal.returns
returns c = sends_few
