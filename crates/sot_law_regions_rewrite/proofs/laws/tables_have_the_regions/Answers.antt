use Rattle.sot_law_regions_rewrite.proofs.Tables.{tables_have}
use Rattle.sot_law_regions_rewrite.proofs.laws.tables_have_the_regions.Goals as goal

pub returns : goal.returns
returns c = tables_have
