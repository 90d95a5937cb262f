use Rattle.std.proofs.Common.{refl}
use Rattle.sot_test_runs.proofs.tests.drive.has_code.Goals as goal

pub returns-in-Some : goal.returns-in-Some
returns-in-Some c = λ t. (c.node_at-info.result.now, _, c.node_at-info.ensures.is, (_, c.in-Some.is, refl))
