use Rattle.sot_test_runs.proofs.tests.drive.is_external.Goals as goal

pub returns-in-None : goal.returns-in-None
returns-in-None c = λ t. (c.node_at-info.result.now, c.node_at-info.ensures.is, c.in-None.is)
