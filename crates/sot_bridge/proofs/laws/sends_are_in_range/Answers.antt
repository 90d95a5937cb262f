use Rattle.sot_bridge.proofs.Ranges.{sends_in_range}
use Rattle.sot_bridge.proofs.laws.sends_are_in_range.Goals as goal

pub returns : goal.returns
returns c = sends_in_range
