use Rattle.sot_law_regions_rewrite.proofs.Programs.{read_back}
use Rattle.sot_law_regions_rewrite.proofs.laws.canonical_texts_with_regions_are_read_back.Goals as goal

pub returns : goal.returns
returns c = read_back
