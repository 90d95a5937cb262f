use Rattle.std.proofs.Common.{refl}
use Rattle.rand_pcg.specs.Lcg.{state_after}
use Rattle.sot_flight.proofs.facts.draws_are_as_stated.Goals as goal

pub returns-clause-words : goal.returns-clause-words
unfolding state_after
returns-clause-words c = (refl, refl, refl)

pub returns-clause-ends : goal.returns-clause-ends
unfolding state_after
returns-clause-ends c = (refl, refl, refl)

pub returns-clause-numbers : goal.returns-clause-numbers
unfolding state_after
returns-clause-numbers c = (refl, refl, refl)
