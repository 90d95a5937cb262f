use Rattle.sot_iv.proofs.BodyExamples.{conditions, first_traps, both_branches, outside_target, slow_over_its_ranges}
use Rattle.sot_iv.proofs.laws.worked_evaluations.Goals as goal

pub returns-clause-conditions : goal.returns-clause-conditions
returns-clause-conditions c = conditions

pub returns-clause-traps : goal.returns-clause-traps
returns-clause-traps c = first_traps

pub returns-clause-branches : goal.returns-clause-branches
returns-clause-branches c = both_branches

pub returns-clause-target : goal.returns-clause-target
returns-clause-target c = outside_target

pub returns-clause-node : goal.returns-clause-node
returns-clause-node c = slow_over_its_ranges
