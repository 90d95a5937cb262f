use Rattle.sot_maker.proofs.ShortMissions.{missions_short}
use Rattle.sot_maker.proofs.laws.made_texts_are_short.Goals as goal

pub returns : goal.returns
returns c = missions_short
