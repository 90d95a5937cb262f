use Rattle.sot_world.proofs.Progress.{something_can_happen}
use Rattle.sot_world.proofs.laws.something_can_happen.Goals as goal

pub returns : goal.returns
returns c = something_can_happen
