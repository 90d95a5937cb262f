use Rattle.sot_formula.proofs.Texts.{causes_exclude}
use Rattle.sot_formula.proofs.laws.causes_exclude_each_other.Goals as goal

pub returns : goal.returns
returns c = causes_exclude
