-- Of `the_first_module_counts`: its promises.
use Rattle.std.proofs.Common.{refl}
use Rattle.sot_worked_missions.proofs.facts.the_first_module_counts.Goals as goal

pub returns : goal.returns
returns c = λ g. refl
