-- Of `calc`: what its calls ask for.
use Rattle.sot_test_runs.proofs.WorkedCalls.{calc_may_run}
use Rattle.sot_test_runs.proofs.tests.worked_nodes.calc.Goals as goal

pub drafted-requires : goal.drafted-requires
drafted-requires c = calc_may_run _ c.in_ok-p.p _ c.in_ok-p.ensures
