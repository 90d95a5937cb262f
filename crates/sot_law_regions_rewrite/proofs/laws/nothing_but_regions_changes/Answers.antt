use Rattle.sot_law_regions_rewrite.proofs.Names.{nothing_else}
use Rattle.sot_law_regions_rewrite.proofs.laws.nothing_but_regions_changes.Goals as goal

pub returns : goal.returns
returns c = nothing_else
