use Rattle.sot_world.proofs.Possible.{possible_is_step}
use Rattle.sot_world.proofs.laws.possible_is_what_has_a_step.Goals as goal

pub returns : goal.returns
returns c = possible_is_step
