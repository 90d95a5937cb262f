use Rattle.sot_certified_text.proofs.Missions.{stand_behind}
use Rattle.sot_certified_text.proofs.plain.certificates_stand_behind.Goals as goal

pub returns : goal.returns
returns c = stand_behind
