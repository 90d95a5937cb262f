use Rattle.sot_bridge.proofs.Relaying.{taken}
use Rattle.sot_bridge.proofs.laws.sends_are_taken.Goals as goal

pub returns : goal.returns
returns c = taken
