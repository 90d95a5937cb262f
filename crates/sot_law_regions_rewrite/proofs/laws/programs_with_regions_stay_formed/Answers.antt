use Rattle.sot_law_regions_rewrite.proofs.Formed.{stay_formed}
use Rattle.sot_law_regions_rewrite.proofs.laws.programs_with_regions_stay_formed.Goals as goal

pub returns : goal.returns
returns c = stay_formed
