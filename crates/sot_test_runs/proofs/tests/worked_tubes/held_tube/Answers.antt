-- Of `held_tube`: what its calls ask for.
use Rattle.sot_test_runs.proofs.WorkedFollows.{line_may_follow, one_input}
use Rattle.sot_test_runs.proofs.tests.worked_tubes.held_tube.Goals as goal

pub held_inside-requires-clause-follow : goal.held_inside-requires-clause-follow
held_inside-requires-clause-follow c = line_may_follow _ c.in_ok-p.p c.in_ok-p.ensures c.in-Some.area c.in-Some.ensures

pub held_inside-requires-clause-commands : goal.held_inside-requires-clause-commands
held_inside-requires-clause-commands c = one_input _ c.in_ok-p.p c.in_ok-p.ensures
