use Rattle.std.proofs.Common.{subst}
use Rattle.sot_world.specs.State.{IsKept}
use Rattle.sot_world.proofs.world.World.reveal_invariant.Goals as goal

pub returns : goal.returns
returns c = subst (λ s. IsKept s.accepted s.at) c.self.view_is c.self.invariant.kept
