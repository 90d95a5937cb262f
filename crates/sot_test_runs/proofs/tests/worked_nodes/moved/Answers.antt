-- Of `moved`: what its calls ask for.
use Rattle.std.proofs.Common.{ap, length}
use Rattle.sot_test_runs.proofs.WorkedCalls.{pos_may_tick}
use Rattle.sot_test_runs.proofs.tests.worked_nodes.moved.Goals as goal

pub plant_next-requires : goal.plant_next-requires
plant_next-requires c = pos_may_tick _ c.in_ok-p.p c.at.result _ _ c.in_ok-p.ensures (ap length c.at.ensures)
