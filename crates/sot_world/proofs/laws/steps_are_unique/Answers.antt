use Rattle.sot_world.proofs.Unique.{steps_are_unique}
use Rattle.sot_world.proofs.laws.steps_are_unique.Goals as goal

pub returns : goal.returns
returns c = steps_are_unique
