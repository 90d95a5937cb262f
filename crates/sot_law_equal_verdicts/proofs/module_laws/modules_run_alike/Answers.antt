use Rattle.sot_law_equal_verdicts.proofs.Looks.{run_alike}
use Rattle.sot_law_equal_verdicts.proofs.module_laws.modules_run_alike.Goals as goal

pub returns : goal.returns
returns c t u a b look one = run_alike t u a b look one
