use Rattle.sot_world.proofs.Main.{invariant_is_safe}
use Rattle.sot_world.proofs.laws.the_invariant_is_safe.Goals as goal

pub returns : goal.returns
returns c = invariant_is_safe
