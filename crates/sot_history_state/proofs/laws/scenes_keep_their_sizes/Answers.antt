use Rattle.sot_history_state.proofs.Sizes.{keep_sizes}
use Rattle.sot_history_state.proofs.laws.scenes_keep_their_sizes.Goals as goal

pub returns : goal.returns
returns c = keep_sizes
