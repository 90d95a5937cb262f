use Rattle.std.proofs.Common.{sym, subst}
use Rattle.sot_world.specs.NodeSorts.{IsCodedNode}
use Rattle.sot_ordered_board.specs.Turns.{FiresNext}
use Rattle.sot_fly_worker.proofs.hold.commit_or_fire.Goals as goal

pub commit_code-requires-clause-ran : goal.commit_code-requires-clause-ran
commit_code-requires-clause-ran c = c.requires.ran

pub fire-requires-clause-coded : goal.fire-requires-clause-coded
fire-requires-clause-coded c =
    subst (λ b. IsCodedNode b.accepted.program c.node.result) (sym c.in-Again.ensures.1)
    (subst (IsCodedNode c.args.board.now.accepted.program) (sym c.node.ensures) c.requires.coded)

pub commit_code-requires-clause-coded : goal.commit_code-requires-clause-coded
commit_code-requires-clause-coded c = c.requires.coded

pub commit_code-requires-clause-taken : goal.commit_code-requires-clause-taken
commit_code-requires-clause-taken c = c.requires.taken

pub commit_code-requires-clause-left : goal.commit_code-requires-clause-left
commit_code-requires-clause-left c = c.requires.next.left

pub commit_code-requires-clause-turn : goal.commit_code-requires-clause-turn
commit_code-requires-clause-turn c = c.requires.next.turn

pub fire-requires-clause-left : goal.fire-requires-clause-left
fire-requires-clause-left c =
    (subst (λ b. FiresNext b c.node.result) (sym c.in-Again.ensures.1) (subst (FiresNext c.args.board.now) (sym c.node.ensures) c.requires.next)).left

pub fire-requires-clause-turn : goal.fire-requires-clause-turn
fire-requires-clause-turn c =
    (subst (λ b. FiresNext b c.node.result) (sym c.in-Again.ensures.1) (subst (FiresNext c.args.board.now) (sym c.node.ensures) c.requires.next)).turn
