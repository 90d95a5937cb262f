use Rattle.std.proofs.Common.{sym, subst}
use Rattle.sot_world.specs.NodeSorts.{IsCodedNode}
use Rattle.sot_world.specs.Steps.{Code}
use Rattle.sot_ordered_board.specs.Order.{HasTurn}
use Rattle.sot_ordered_board.proofs.Extending.{firing_goes}
use Rattle.sot_ordered_board.proofs.ordered.OrderedBoard.fire.Goals as goal

pub fire-requires-clause-coded : goal.fire-requires-clause-coded
fire-requires-clause-coded c = subst (λ s. IsCodedNode s.accepted.program c.args.node) (sym c.self.view_is) c.requires.coded

pub invariant_of-self : goal.invariant_of-self
invariant_of-self c =
    let n = c.args.node in
    firing_goes c.self.inside.board c.fire.new.self n (Code n) c.fire.result c.self.invariant c.fire.ensures
    (λ own. subst (λ s. HasTurn s.accepted.program s.plan s.position n) (sym c.self.view_is) c.requires.turn)
