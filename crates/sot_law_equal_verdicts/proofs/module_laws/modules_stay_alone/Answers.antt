use Rattle.sot_law_equal_verdicts.proofs.Looks.{stays_alone}
use Rattle.sot_law_equal_verdicts.proofs.module_laws.modules_stay_alone.Goals as goal

pub returns : goal.returns
returns c t u a b look one alone = stays_alone t u a b look one alone
