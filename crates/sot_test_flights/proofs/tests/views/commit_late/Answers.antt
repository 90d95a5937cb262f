use Rattle.std.proofs.Common.{sym, subst, ◌∙◌}
use Rattle.sot_tube.specs.Admitted.{Admitted}
use Rattle.sot_world.specs.NodeSorts.{IsCodedNode}
use Rattle.sot_board.specs.Standing.{Standing}
use Rattle.sot_test_flights.proofs.tests.views.commit_late.Goals as goal

second : {A B C : Type 0} → A × B × C → B
second (a, b, c) = b

third : {A B C : Type 0} → A × B × C → C
third (a, b, c) = c

pub commit_code-requires-clause-coded : goal.commit_code-requires-clause-coded
commit_code-requires-clause-coded c =
    subst (λ (a : Admitted). IsCodedNode a.program c.view-view.result.node) (sym c.input.ensures.accepted)
    (subst (λ n. IsCodedNode c.args.board.now.accepted.program n) (sym c.view-view.ensures.node) c.requires.coded)

pub run-fired_again-requires-clause-coded : goal.run-fired_again-requires-clause-coded
run-fired_again-requires-clause-coded c =
    subst (λ (b : Standing). IsCodedNode b.accepted.program c.args.node) (sym (second c.in-Again.ensures))
    (subst (λ (a : Admitted). IsCodedNode a.program c.args.node) (sym c.input.ensures.accepted) c.requires.coded)

pub commit_code-requires-2-clause-coded : goal.commit_code-requires-2-clause-coded
commit_code-requires-2-clause-coded c =
    subst (λ (b : Standing). IsCodedNode b.accepted.program c.in-Again.again.node) (sym (second c.in-Again.ensures))
    (subst (λ (a : Admitted). IsCodedNode a.program c.in-Again.again.node) (sym c.input.ensures.accepted)
    (subst (λ n. IsCodedNode c.args.board.now.accepted.program n) (sym ((third c.in-Again.ensures).node ∙ c.view-view.ensures.node)) c.requires.coded))
