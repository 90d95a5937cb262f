use Rattle.std.proofs.Common.{sym, subst, length, ◌<◌}
use Rattle.std.proofs.lemmas.Bool.{ltb-true}
use Rattle.sot_lists.proofs.Places.{read_at}
use Rattle.sot_world.proofs.GivenAnswers.{recalled}
use Rattle.sot_world.proofs.answers.Answers.recall.Goals as goal

pub returns-in-Some : goal.returns-in-Some
returns-in-Some c =
    let acc = c.self.inside.accepted.now in
    let lt : c.args.place < length c.deref.result.now = ltb-true c.args.place (length c.deref.result.now) (sym c.in-Some.ensures.lookup.0) in
    let here = read_at _ c.self.inside.given.items c.args.place _ c.deref.ensures.value (subst (λ xs. c.args.place < length xs) c.deref.ensures.value lt)
    c.in-Some.ensures.lookup.1 in
    recalled acc c.args.self.now c.in-Some.answer.now c.args.module c.args.s.now c.told.result c.self.view_is
    (c.self.invariant c.args.place c.in-Some.answer.now here) c.told.ensures
