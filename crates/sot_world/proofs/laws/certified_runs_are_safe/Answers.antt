use Rattle.sot_world.proofs.Main.{certified_runs_are_safe}
use Rattle.sot_world.proofs.laws.certified_runs_are_safe.Goals as goal

pub returns : goal.returns
returns c = certified_runs_are_safe
