use Rattle.std.proofs.Common.{sym, subst}
use Rattle.sot_world.specs.NodeSorts.{IsExternalNode}
use Rattle.sot_world.specs.Steps.{Guest}
use Rattle.sot_ordered_board.specs.Order.{HasTurn}
use Rattle.sot_ordered_board.proofs.Extending.{firing_goes}
use Rattle.sot_ordered_board.proofs.ordered.OrderedBoard.commit_stated.Goals as goal

pub commit_stated-requires-clause-external : goal.commit_stated-requires-clause-external
commit_stated-requires-clause-external c =
    subst (λ s. IsExternalNode s.accepted.program c.args.node) (sym c.self.view_is) c.requires.external

pub invariant_of-self : goal.invariant_of-self
invariant_of-self c =
    let n = c.args.node in
    firing_goes c.self.inside.board c.commit_stated.new.self n (Guest n c.commit_stated.ensures.0) c.commit_stated.result c.self.invariant
    c.commit_stated.ensures.1
    (λ own. subst (λ s. HasTurn s.accepted.program s.plan s.position n) (sym c.self.view_is) c.requires.turn)
