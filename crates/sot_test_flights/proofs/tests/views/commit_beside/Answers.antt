use Rattle.std.proofs.Common.{sym, subst}
use Rattle.sot_tube.specs.Admitted.{Admitted}
use Rattle.sot_world.specs.NodeSorts.{IsCodedNode}
use Rattle.sot_test_flights.proofs.tests.views.commit_beside.Goals as goal

pub commit_code-requires-clause-coded : goal.commit_code-requires-clause-coded
commit_code-requires-clause-coded c =
    subst (λ (a : Admitted). IsCodedNode a.program c.view-view.result.node) (sym c.fire_stated.ensures.accepted)
    (subst (λ n. IsCodedNode c.args.board.now.accepted.program n) (sym c.view-view.ensures.node) c.requires.coded)
