use Rattle.sot_tube.proofs.Certificate.{certified_well}
use Rattle.sot_tube.proofs.laws.certified_is_well_formed.Goals as goal

pub returns : goal.returns
returns c = certified_well
