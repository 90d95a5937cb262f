use Rattle.sot_iv.proofs.Narrow.{term_narrow}
use Rattle.sot_iv.proofs.BodyNarrow.{execution_narrow}
use Rattle.sot_iv.proofs.Plants.{plant_narrow}
use Rattle.sot_iv.proofs.laws.intervals_are_monotone.Goals as goal

pub returns-clause-terms : goal.returns-clause-terms
returns-clause-terms c = term_narrow

pub returns-clause-bodies : goal.returns-clause-bodies
returns-clause-bodies c = execution_narrow

pub returns-clause-plants : goal.returns-clause-plants
returns-clause-plants c = plant_narrow
