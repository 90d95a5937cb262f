use Rattle.std.proofs.Common.{◌≡◌, sym, subst}
use Rattle.sot_world.specs.NodeSorts.{IsCodedNode}
use Rattle.sot_world.specs.Steps.{Code}
use Rattle.sot_board.specs.Calls.{LogsFiring}
use Rattle.sot_board.specs.Commits.{IsCurrent, MatchCommit}
use Rattle.sot_board.specs.Standing.{Standing}
use Rattle.sot_board.specs.Views.{IsView, viewed_node}
use Rattle.sot_ordered_board.specs.Order.{HasTurn}
use Rattle.sot_ordered_board.proofs.Extending.{commit_goes}
use Rattle.sot_ordered_board.proofs.ordered.OrderedBoard.commit_code.Goals as goal

pub commit_code-requires-clause-coded : goal.commit_code-requires-clause-coded
commit_code-requires-clause-coded c =
    subst (λ s. IsCodedNode s.accepted.program (viewed_node c.args.view)) (sym c.self.view_is) c.requires.coded

pub invariant_of-self : goal.invariant_of-self
invariant_of-self c =
    commit_goes c.self.inside.board c.commit_code.new.self c.args.view c.commit_code.result c.self.invariant
    (subst (λ s. HasTurn s.accepted.program s.plan s.position (viewed_node c.args.view)) (sym c.self.view_is) c.requires.turn)
    c.commit_code.ensures

pub returns : goal.returns
returns c =
    let n = viewed_node c.args.view in
    let new = c.commit_code.new.self in
    subst
    (λ (s : Standing). MatchCommit c.commit_code.result (λ receipt. IsCurrent s c.args.view × LogsFiring s new n (Code n) receipt)
    (λ again. (IsCurrent s c.args.view → ⊥) × (new ≡ s) × IsView s.accepted.program s.entries s.position n again))
    c.self.view_is c.commit_code.ensures
