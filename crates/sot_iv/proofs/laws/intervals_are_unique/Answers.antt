use Rattle.sot_iv.proofs.Unique.{term_same}
use Rattle.sot_iv.proofs.BodyUnique.{execution_same}
use Rattle.sot_iv.proofs.Plants.{plant_same}
use Rattle.sot_iv.proofs.laws.intervals_are_unique.Goals as goal

pub returns-clause-terms : goal.returns-clause-terms
returns-clause-terms c = term_same

pub returns-clause-bodies : goal.returns-clause-bodies
returns-clause-bodies c = execution_same

pub returns-clause-plants : goal.returns-clause-plants
returns-clause-plants c = plant_same
