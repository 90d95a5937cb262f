use Rattle.std.proofs.Common.{◌<◌, length, List, ℤ, sym, subst, ◌∙◌, arith}
use Rattle.sot_lists.proofs.Places.{at_below}
use Rattle.sot_test_flights.proofs.tests.steps.seen.Goals as goal

-- a view has as many numbers as are lent
pub read-requires : goal.read-requires
read-requires c =
    let info = at_below c.args.board.now.accepted.program.nodes c.args.node c.requires in
    let same = c.view-view.ensures.numbers info.0 info.1 ∙ sym (c.lend-lent.ensures info.0 info.1) in
    subst (λ (l : List ℤ). c.args.slot < length l) same (omega (arith, c.if-slot-len.true, c.len.ensures))
