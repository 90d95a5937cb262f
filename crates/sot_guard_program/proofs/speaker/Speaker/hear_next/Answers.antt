use Rattle.std.proofs.Common.{not, ap, subst}
use Rattle.sot_guard_program.specs.Moments.{mouth}
use Rattle.sot_guard_program.specs.Hearing.{IsNextLine}
use Rattle.sot_guard_program.proofs.NextLine.{next_heard, next_stopped}
use Rattle.sot_guard_program.proofs.speaker.Speaker.hear_next.Goals as goal

pub returns-in-Ok : goal.returns-in-Ok
returns-in-Ok g c =
    let left = g.S.Source.left in
    let failed = g.S.Source.faults in
    let held = g.K.Sink.held in
    let faults = g.K.Sink.faults in
    let after = left c.next_line.new.source in
    let m = c.next_line.new.ear in
    let ok = c.in-Ok-Some.ensures in
    let line = subst (λ n. IsNextLine n after m) c.in-Ok-Some.field-0-is ok.next in
    let taken = c.in-Ok.ensures in
    next_heard (left c.args.source.now) after (failed c.args.source.now) (failed c.next_line.new.source) c.args.ear.now m ok.reads c.take.new.ear
    ok.well c.in-Ok-Some.len line taken.waiting taken.ended c.args.self.now.talk c.take.new.self.talk
    (mouth (held c.args.sink.now) (faults c.args.sink.now))
    (mouth (held c.take.new.sink) (faults c.take.new.sink)) taken (not c.has_ended.result) (ap not c.has_ended.ensures)

pub returns-in-Err-take : goal.returns-in-Err-take
returns-in-Err-take g c =
    let left = g.S.Source.left in
    let failed = g.S.Source.faults in
    let held = g.K.Sink.held in
    let faults = g.K.Sink.faults in
    let after = left c.next_line.new.source in
    let m = c.next_line.new.ear in
    let ok = c.in-Ok-Some.ensures in
    let line = subst (λ n. IsNextLine n after m) c.in-Ok-Some.field-0-is ok.next in
    let taken = c.in-Err-take.ensures in
    next_stopped (left c.args.source.now) after (failed c.args.source.now) (failed c.next_line.new.source) c.args.ear.now m ok.reads c.take.new.ear
    ok.well c.in-Ok-Some.len line taken.waiting taken.ended c.args.self.now.talk c.take.new.self.talk
    (mouth (held c.args.sink.now) (faults c.args.sink.now))
    (mouth (held c.take.new.sink) (faults c.take.new.sink)) c.in-Err-take.stop taken
