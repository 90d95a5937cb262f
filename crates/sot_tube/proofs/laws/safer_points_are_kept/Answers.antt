use Rattle.sot_tube.proofs.SaferPoints.{safer_is_kept}
use Rattle.sot_tube.proofs.laws.safer_points_are_kept.Goals as goal

pub returns : goal.returns
returns c p cert m a s rules certified at safer = safer_is_kept p cert.jitter cert rules certified m a s at safer
