-- Of `faults_are_the_failing_rules`: its promises.
use Rattle.sot_rules.proofs.FirstFault.{listed, failing, first_is, none_is}
use Rattle.sot_rules.proofs.laws.faults_are_the_failing_rules.Goals as goal

pub returns-clause-listed : goal.returns-clause-listed
returns-clause-listed c p f = (listed p f, failing p f)

pub returns-clause-first : goal.returns-clause-first
returns-clause-first c p f e = first_is p f e

pub returns-clause-faultless : goal.returns-clause-faultless
returns-clause-faultless c p e = none_is p e
