-- Of `drifting_tube`: what its calls ask for.
use Rattle.sot_test_runs.proofs.WorkedFollows.{line_may_follow}
use Rattle.sot_test_runs.proofs.tests.worked_tubes.drifting_tube.Goals as goal

pub any_inside-requires : goal.any_inside-requires
any_inside-requires c = line_may_follow _ c.in_ok-p.p c.in_ok-p.ensures c.in-Some.area c.in-Some.ensures
