use Rattle.std.proofs.Common.{refl}
use Rattle.std.specs.Fmt.{digits}
use Rattle.sot_summary.proofs.facts.summaries_are_as_stated.Goals as goal

pub returns-clause-relay : goal.returns-clause-relay
returns-clause-relay c g = refl

pub returns-clause-line : goal.returns-clause-line
returns-clause-line c g = refl

pub returns-clause-plants : goal.returns-clause-plants
returns-clause-plants c g = refl

pub returns-clause-text : goal.returns-clause-text
unfolding digits
returns-clause-text c = (refl, refl)
