use Rattle.sot_guard.proofs.Holding.{safer_starts_are_held_safe}
use Rattle.sot_guard.proofs.laws.safer_starts_are_held_safe.Goals as goal

pub returns : goal.returns
returns c = safer_starts_are_held_safe
