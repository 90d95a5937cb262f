-- Of `line_keeps`: what its calls ask for.
use Rattle.std.proofs.Common.{length, ap}
use Rattle.sot_box.specs.Boxes.{point_box}
use Rattle.sot_test_runs.proofs.WorkedFollows.{line_may_follow}
use Rattle.sot_test_runs.proofs.tests.worked_tubes.line_keeps.Goals as goal

pub keeps-requires-clause-follow : goal.keeps-requires-clause-follow
keeps-requires-clause-follow c = line_may_follow _ c.in_ok-p.p c.in_ok-p.ensures (point_box c.at.result) (ap (λ s. length (point_box s)) c.at.ensures)
