use Rattle.sot_board.proofs.ViewLaws.{views_stay}
use Rattle.sot_board.proofs.laws.views_stay.Goals as goal

pub returns : goal.returns
returns c = views_stay
