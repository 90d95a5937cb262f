use Rattle.std.proofs.Common.{refl}
use Rattle.std.specs.Fmt.{digits}
use Rattle.sot_print.proofs.facts.declarations_are_as_stated.Goals as goal

pub returns-clause-topics : goal.returns-clause-topics
unfolding digits
returns-clause-topics c = (refl, refl, refl)

pub returns-clause-plants : goal.returns-clause-plants
unfolding digits
returns-clause-plants c = refl

pub returns-clause-nodes : goal.returns-clause-nodes
unfolding digits
returns-clause-nodes c = refl

pub returns-clause-modules : goal.returns-clause-modules
unfolding digits
returns-clause-modules c = refl
