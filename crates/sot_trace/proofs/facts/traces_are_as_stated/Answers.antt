use Rattle.std.proofs.Common.{refl}
use Rattle.sot_trace.proofs.Worked.{words, traced}
use Rattle.sot_trace.proofs.facts.traces_are_as_stated.Goals as goal

pub returns-clause-away : goal.returns-clause-away
returns-clause-away c g = refl

pub returns-clause-back : goal.returns-clause-back
returns-clause-back c g = refl

pub returns-clause-outside : goal.returns-clause-outside
returns-clause-outside c g = refl

pub returns-clause-disabled : goal.returns-clause-disabled
returns-clause-disabled c g = refl

pub returns-clause-marks : goal.returns-clause-marks
returns-clause-marks c g = (refl, refl, refl)

pub returns-clause-records : goal.returns-clause-records
returns-clause-records c g = (refl, refl, refl, refl)

pub returns-clause-numbers : goal.returns-clause-numbers
returns-clause-numbers c = (refl, refl, refl)

pub returns-clause-law : goal.returns-clause-law
returns-clause-law c g = (words g, traced g)
