use Rattle.sot_certify.proofs.FailingTubes.{tubes_leave}
use Rattle.sot_certify.proofs.laws.tubes_of_failing_points_leave.Goals as goal

pub returns : goal.returns
returns c = tubes_leave
