use Rattle.sot_bridge.proofs.Times.{sends_in_order}
use Rattle.sot_bridge.proofs.laws.sends_are_in_order.Goals as goal

pub returns : goal.returns
returns c = sends_in_order
