use Rattle.sot_ordered_board.proofs.Extending.{input_goes}
use Rattle.sot_ordered_board.proofs.ordered.OrderedBoard.input.Goals as goal

pub invariant_of-self : goal.invariant_of-self
invariant_of-self c = input_goes c.self.inside.board c.input.new.self c.self.invariant c.input.ensures
