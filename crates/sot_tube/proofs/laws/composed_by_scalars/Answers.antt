use Rattle.sot_tube.proofs.ByScalars.{composed_by_scalars}
use Rattle.sot_tube.proofs.laws.composed_by_scalars.Goals as goal

pub returns : goal.returns
returns c = composed_by_scalars
