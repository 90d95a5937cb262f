use Rattle.std.proofs.Common.{ap, length}
use Rattle.sot_test_runs.proofs.Views.{starts_at}
use Rattle.sot_test_runs.proofs.tests.worlds.opened.Goals as goal

pub open-requires : goal.open-requires
open-requires c = starts_at _ c.args.p.now c.args.acc.now.program c.requires.program c.requires.line c.at.result (ap length c.at.ensures)
