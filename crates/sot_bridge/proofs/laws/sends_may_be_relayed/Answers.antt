use Rattle.sot_bridge.proofs.Relaying.{may_be_relayed}
use Rattle.sot_bridge.proofs.laws.sends_may_be_relayed.Goals as goal

pub returns : goal.returns
returns c = may_be_relayed
