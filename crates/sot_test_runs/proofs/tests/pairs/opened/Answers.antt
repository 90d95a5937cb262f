use Rattle.std.proofs.Common.{ap, length}
use Rattle.sot_test_runs.proofs.PairViews.{pair_starts}
use Rattle.sot_test_runs.proofs.tests.pairs.opened.Goals as goal

pub open-requires : goal.open-requires
open-requires c =
    pair_starts _ c.args.p.now c.requires.pair c.args.acc.now.program c.requires.program c.at.result c.charge.result (ap length c.at.ensures)
    (ap length c.charge.ensures)
