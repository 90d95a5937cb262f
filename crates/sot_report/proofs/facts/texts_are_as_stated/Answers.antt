use Rattle.std.proofs.Common.{refl}
use Rattle.std.specs.Fmt.{digits}
use Rattle.sot_report.proofs.facts.texts_are_as_stated.Goals as goal

pub returns-clause-starts : goal.returns-clause-starts
unfolding digits
returns-clause-starts c = λ g. refl
