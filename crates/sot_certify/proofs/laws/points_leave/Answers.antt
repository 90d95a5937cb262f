use Rattle.sot_certify.proofs.Points.{points_leave}
use Rattle.sot_certify.proofs.laws.points_leave.Goals as goal

pub returns : goal.returns
returns c = points_leave
