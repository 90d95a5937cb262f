-- What one table accepts is well certified by the other, whose verdict refuses nothing then.
use Rattle.sot_law_equal_tables.proofs.Verdicts.{verdicts_alike}
use Rattle.sot_law_equal_tables.proofs.laws.verdicts_are_alike.Goals as goal

pub returns : goal.returns
returns c = verdicts_alike
