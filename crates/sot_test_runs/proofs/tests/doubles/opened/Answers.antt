use Rattle.std.proofs.Common.{ap, length}
use Rattle.sot_test_runs.proofs.DoubleViews.{double_starts}
use Rattle.sot_test_runs.proofs.tests.doubles.opened.Goals as goal

pub open-requires : goal.open-requires
open-requires c = double_starts _ _ c.args.p.now c.requires.arm c.args.acc.now.program c.requires.program c.moving.result (ap length c.moving.ensures)
