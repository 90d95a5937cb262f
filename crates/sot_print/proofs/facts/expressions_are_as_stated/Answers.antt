use Rattle.std.proofs.Common.{refl}
use Rattle.std.specs.Fmt.{digits}
use Rattle.sot_print.proofs.facts.expressions_are_as_stated.Goals as goal

pub returns-clause-literals : goal.returns-clause-literals
unfolding digits
returns-clause-literals c = (refl, refl, refl, refl, refl, refl, refl)

pub returns-clause-operands : goal.returns-clause-operands
unfolding digits
returns-clause-operands c = (refl, refl, refl, refl, refl, refl, refl)

pub returns-clause-negations : goal.returns-clause-negations
unfolding digits
returns-clause-negations c = (refl, refl, refl, refl, refl)

pub returns-clause-calls : goal.returns-clause-calls
unfolding digits
returns-clause-calls c = (refl, refl, refl, refl)
