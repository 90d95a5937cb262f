use Rattle.sot_commands.proofs.GuestLaws.{flew_once}
use Rattle.sot_commands.proofs.laws.flew_once.Goals as goal

pub returns : goal.returns
returns g c = flew_once _
