use Rattle.std.proofs.Common.{refl}
use Rattle.sot_law_flights.proofs.facts.counts_are_as_stated.Goals as goal

pub returns-clause-line : goal.returns-clause-line
returns-clause-line c g = (refl, refl, refl, refl, refl, refl, refl, refl)

pub returns-clause-relay : goal.returns-clause-relay
returns-clause-relay c g = (refl, refl, refl, refl)

pub returns-clause-firings : goal.returns-clause-firings
returns-clause-firings c = (refl, refl)
