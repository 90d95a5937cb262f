use Rattle.std.proofs.Common.{refl}
use Rattle.sot_world.specs.declared.answers.KeepsAnswer.TheVariants.{Given}
use Rattle.sot_world.proofs.GivenAnswers.{stay_right, said_of}
use Rattle.sot_world.proofs.answers.Answers.ask.Goals as goal

pub invariant_of-self : goal.invariant_of-self
invariant_of-self c =
    let acc = c.self.inside.accepted.now in
    stay_right acc c.self.inside.given.items c.args.place (Given c.keeps-kept.result c.args.module c.args.s.now) c.self.invariant
    (said_of acc acc c.typed.result.now c.cert.result.now c.args.module c.args.s.now c.keeps-kept.result c.typed.ensures.program c.cert.ensures.cert refl
    c.keeps-kept.ensures)

pub returns-then-place-len-clause-kept : goal.returns-then-place-len-clause-kept
returns-then-place-len-clause-kept c =
    said_of c.self.inside.accepted.now c.args.self.now c.typed.result.now c.cert.result.now c.args.module c.args.s.now c.keeps-kept.result
    c.typed.ensures.program c.cert.ensures.cert c.self.view_is c.keeps-kept.ensures

pub returns-else-place-len-clause-kept : goal.returns-else-place-len-clause-kept
returns-else-place-len-clause-kept c =
    said_of c.self.inside.accepted.now c.args.self.now c.typed.result.now c.cert.result.now c.args.module c.args.s.now c.keeps-kept.result
    c.typed.ensures.program c.cert.ensures.cert c.self.view_is c.keeps-kept.ensures
