-- Computed.
use Rattle.std.proofs.Common.{refl}
use Rattle.sot_law_flight_facts.proofs.worked.versions_count_writes.Goals as goal

pub returns-clause-later_scalar : goal.returns-clause-later_scalar
returns-clause-later_scalar c g = (refl, refl, refl, refl, refl)

pub returns-clause-nothing : goal.returns-clause-nothing
returns-clause-nothing c g = (refl, refl, refl, refl, refl)

pub returns-clause-inputs : goal.returns-clause-inputs
returns-clause-inputs c g = (refl, refl, refl)

pub returns-clause-counted : goal.returns-clause-counted
returns-clause-counted c g = (refl, refl, refl)
