use Rattle.std.proofs.Common.{sym, subst}
use Rattle.sot_board.specs.Flown.{NoInputDue}
use Rattle.sot_ordered_board.specs.Order.{HaveDecided}
use Rattle.sot_ordered_board.proofs.Extending.{decide_goes}
use Rattle.sot_ordered_board.proofs.ordered.OrderedBoard.decide.Goals as goal

pub invariant_of-self : goal.invariant_of-self
invariant_of-self c =
    let was = sym c.self.view_is in
    decide_goes c.self.inside.board c.decide.new.self c.args.«module» c.decide.result c.self.invariant c.decide.ensures
    (subst (λ s. NoInputDue s.position) was c.requires.inputs)
    (subst (λ s. HaveDecided s.position c.args.«module») was c.requires.before)
