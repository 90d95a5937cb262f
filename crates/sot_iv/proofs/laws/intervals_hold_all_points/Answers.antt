use Rattle.sot_iv.proofs.Sound.{sound}
use Rattle.sot_iv.proofs.BodySound.{exec_sound}
use Rattle.sot_iv.proofs.Plants.{plant_sound}
use Rattle.sot_iv.proofs.laws.intervals_hold_all_points.Goals as goal

pub returns-clause-terms : goal.returns-clause-terms
returns-clause-terms c = sound

pub returns-clause-bodies : goal.returns-clause-bodies
returns-clause-bodies c = exec_sound

pub returns-clause-plants : goal.returns-clause-plants
returns-clause-plants c = plant_sound
