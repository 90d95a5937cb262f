use Rattle.sot_certify.proofs.Agreement.{each_agree}
use Rattle.sot_certify.specs.Made.{IsGood, region_of}
use Rattle.sot_certify.proofs.laws.lists_are_found_once.Goals as goal

pub returns : goal.returns
returns c p a reach f g h k = each_agree (IsGood p a reach) (region_of a reach).boxes f g h k
