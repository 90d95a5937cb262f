-- Of `ticked`: what its call asks for.
use Rattle.std.proofs.Common.{refl}
use Rattle.sot_test_runs.proofs.WorkedFollows.{line_may_tick}
use Rattle.sot_test_runs.proofs.tests.worked_tubes.ticked.Goals as goal

pub iv_plant-requires : goal.iv_plant-requires
iv_plant-requires c = line_may_tick _ c.in_ok-p.p c.in_ok-p.ensures c.in-Some.area _ c.in-Some.ensures refl
