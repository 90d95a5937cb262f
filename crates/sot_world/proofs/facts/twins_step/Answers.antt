use Rattle.sot_world.proofs.TwinSteps.{both_numbers, second_decides}
use Rattle.sot_world.proofs.TwinSteps as twin
use Rattle.sot_world.proofs.facts.twins_step.Goals as goal

pub returns : goal.returns
returns c = record { both_numbers = both_numbers; second_decides = second_decides; swap = twin.swap }
