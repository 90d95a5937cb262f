use Rattle.sot_certified_text.proofs.Made.{regions_short}
use Rattle.sot_certified_text.proofs.laws.tables_have_short_regions.Goals as goal

pub returns : goal.returns
returns c = regions_short
