use Rattle.std.proofs.Common.{sym, subst, length}
use Rattle.sot_flight.specs.Stated.{stated_noise}
use Rattle.sot_ordered_board.specs.Order.{HasTurn}
use Rattle.sot_ordered_board.proofs.Extending.{tick_goes}
use Rattle.sot_ordered_board.proofs.ordered.OrderedBoard.tick.Goals as goal

pub invariant_of-self : goal.invariant_of-self
invariant_of-self c =
    let b = c.self.inside.board in
    tick_goes b c.tick.new.self (stated_noise b.accepted.program b.plan b.position.at.time) c.tick.ensures.0 c.self.invariant c.tick.ensures.1
    (subst (λ s. HasTurn s.accepted.program s.plan s.position (length s.accepted.program.nodes)) (sym c.self.view_is) c.requires.turn)
