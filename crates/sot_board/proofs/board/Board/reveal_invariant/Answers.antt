use Rattle.std.proofs.Common.{subst}
use Rattle.sot_board.specs.Standing.{IsStanding}
use Rattle.sot_board.proofs.board.Board.reveal_invariant.Goals as goal

pub returns : goal.returns
returns c = subst IsStanding c.self.view_is c.self.invariant.has.standing
