use Rattle.sot_law_invariant_regions.proofs.HeldRegions.{certified_is_held}
use Rattle.sot_law_invariant_regions.proofs.laws.certified_regions_are_held.Goals as goal

pub returns : goal.returns
returns c p jitter cert m a rules certified at = certified_is_held p jitter cert m a rules certified at
