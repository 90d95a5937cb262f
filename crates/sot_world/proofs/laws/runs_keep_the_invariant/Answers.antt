use Rattle.sot_world.proofs.Main.{runs_keep_invariant}
use Rattle.sot_world.proofs.laws.runs_keep_the_invariant.Goals as goal

pub returns : goal.returns
returns c = runs_keep_invariant
