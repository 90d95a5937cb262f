use Rattle.sot_history_state.proofs.Scenes.{scenes_are_the_runs}
use Rattle.sot_history_state.proofs.laws.scenes_are_the_runs.Goals as goal

pub returns : goal.returns
returns c = scenes_are_the_runs
