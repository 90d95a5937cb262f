use Rattle.std.proofs.Common.{refl}
use Rattle.sot_flight.proofs.facts.rows_are_as_stated.Goals as goal

pub returns-clause-one : goal.returns-clause-one
returns-clause-one c t = refl

pub returns-clause-two : goal.returns-clause-two
returns-clause-two c = (refl, refl, refl)
