use Rattle.sot_law_formula_meaning.proofs.Meanings.{mean_once}
use Rattle.sot_law_formula_meaning.proofs.laws.texts_mean_once.Goals as goal

pub returns : goal.returns
returns c = mean_once
