use Rattle.sot_certify.proofs.Covering.{failing_each}
use Rattle.sot_certify.specs.Made.{IsGood, region_of}
use Rattle.sot_certify.proofs.laws.failing_points_leave.Goals as goal

pub returns : goal.returns
returns c p a reach s h = failing_each (IsGood p a reach) (region_of a reach).boxes h.cells s h.found
