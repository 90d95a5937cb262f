use Rattle.sot_ordered_board.proofs.OneHistory.{ordered_are_flown}
use Rattle.sot_ordered_board.proofs.laws.ordered_are_flown.Goals as goal

pub returns : goal.returns
returns c = ordered_are_flown
