-- Of `tables_are_as_stated`: its promises.
use Rattle.std.proofs.Common.{refl}
use Rattle.sot_typing.specs.Resolved.{tables_of}
use Rattle.sot_typing.proofs.facts.tables_are_as_stated.Goals as goal

pub returns-clause-line : goal.returns-clause-line
unfolding tables_of
returns-clause-line c = refl

pub returns-clause-many : goal.returns-clause-many
unfolding tables_of
returns-clause-many c = refl
