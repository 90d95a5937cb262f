-- Computed.
use Rattle.std.proofs.Common.{refl}
use Rattle.rand_pcg.specs.Lcg.{state_after}
use Rattle.sot_law_flight_facts.proofs.worked.stated_values_are_as_stated.Goals as goal

pub returns-clause-ends : goal.returns-clause-ends
returns-clause-ends c g = (refl, refl, refl, refl)

pub returns-clause-rows : goal.returns-clause-rows
returns-clause-rows c g = (refl, refl, refl, refl)

pub returns-clause-words : goal.returns-clause-words
unfolding state_after
returns-clause-words c g = (refl, refl)

pub returns-clause-edges : goal.returns-clause-edges
unfolding state_after
returns-clause-edges c g = (refl, refl, refl, refl, refl)

pub returns-clause-drafts : goal.returns-clause-drafts
returns-clause-drafts c g = (refl, refl, refl, refl, refl)

pub returns-clause-drawn : goal.returns-clause-drawn
unfolding state_after
returns-clause-drawn c g = (refl, refl)

pub returns-clause-drawn_edges : goal.returns-clause-drawn_edges
unfolding state_after
returns-clause-drawn_edges c g = (refl, refl)
