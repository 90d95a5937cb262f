use Rattle.sot_law_regions_rewrite.proofs.Faultless.{stay_faultless}
use Rattle.sot_law_regions_rewrite.proofs.laws.programs_with_regions_stay_faultless.Goals as goal

pub returns : goal.returns
returns c = stay_faultless
