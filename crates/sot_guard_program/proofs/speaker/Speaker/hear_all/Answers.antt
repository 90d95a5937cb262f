use Rattle.std.proofs.Common.{Ok, subst}
use Rattle.sot_guard_program.specs.Moments.{ears, mouth}
use Rattle.sot_guard_program.specs.Hearing.{AnswersNext}
use Rattle.sot_guard_program.proofs.SoFar.{more_so_far, last_so_far}
use Rattle.sot_guard_program.proofs.speaker.Speaker.hear_all.Goals as goal

pub loop-line-preserved : goal.loop-line-preserved
loop-line-preserved g c =
    let left = g.S.Source.left in
    let failed = g.S.Source.faults in
    let held = g.K.Sink.held in
    let faults = g.K.Sink.faults in
    let so_far = c.loop-line in
    let new = c.hear_next.new in
    let e = ears (left c.args.source.now) (failed c.args.source.now) c.args.ear.now in
    let m = ears (left so_far.source) (failed so_far.source) so_far.ear in
    let f = ears (left new.source) (failed new.source) new.ear in
    let x = mouth (held c.args.sink.now) (faults c.args.sink.now) in
    let z = mouth (held so_far.sink) (faults so_far.sink) in
    let y = mouth (held new.sink) (faults new.sink) in
    let next = subst (λ b. AnswersNext so_far.self.talk new.self.talk m f z y (Ok b)) c.in-Ok-true.field-0-test c.in-Ok-true.ensures in
    more_so_far c.args.self.now.talk so_far.self.talk c.args.first so_far.line e m x z so_far.invariant new.self.talk f y next

pub returns-in-Ok-false : goal.returns-in-Ok-false
returns-in-Ok-false g c =
    let left = g.S.Source.left in
    let failed = g.S.Source.faults in
    let held = g.K.Sink.held in
    let faults = g.K.Sink.faults in
    let so_far = c.loop-line in
    let new = c.hear_next.new in
    let e = ears (left c.args.source.now) (failed c.args.source.now) c.args.ear.now in
    let m = ears (left so_far.source) (failed so_far.source) so_far.ear in
    let f = ears (left new.source) (failed new.source) new.ear in
    let x = mouth (held c.args.sink.now) (faults c.args.sink.now) in
    let z = mouth (held so_far.sink) (faults so_far.sink) in
    let y = mouth (held new.sink) (faults new.sink) in
    let last = subst (λ b. AnswersNext so_far.self.talk new.self.talk m f z y (Ok b)) c.in-Ok-false.field-0-test c.in-Ok-false.ensures in
    last_so_far c.args.self.now.talk so_far.self.talk c.args.first so_far.line e m x z so_far.invariant new.self.talk f y last
