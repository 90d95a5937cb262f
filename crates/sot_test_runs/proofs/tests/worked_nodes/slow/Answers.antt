-- Of `slow`: what its calls ask for.
use Rattle.sot_test_runs.proofs.WorkedCalls.{slow_may_run}
use Rattle.sot_test_runs.proofs.tests.worked_nodes.slow.Goals as goal

pub drafted-requires : goal.drafted-requires
drafted-requires c = slow_may_run _ c.in_ok-p.p _ c.in_ok-p.ensures
