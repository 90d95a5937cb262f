use Rattle.sot_ordered_board.proofs.OneHistory.{one_history_in_order}
use Rattle.sot_ordered_board.proofs.laws.one_history_in_order.Goals as goal

pub returns : goal.returns
returns c = one_history_in_order
