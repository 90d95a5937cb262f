use Rattle.std.proofs.Common.{refl}
use Rattle.rand_pcg.specs.Lcg.{state_after}
use Rattle.sot_maker.proofs.facts.offsets_are_as_stated.Goals as goal

pub returns-clause-first : goal.returns-clause-first
unfolding state_after
returns-clause-first c = (refl, refl, refl, refl)

pub returns-clause-even : goal.returns-clause-even
returns-clause-even c = (refl, refl)
