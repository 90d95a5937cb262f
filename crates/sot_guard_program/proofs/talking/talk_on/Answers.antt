use Rattle.std.proofs.Common.{refl, sym, ◌∙◌}
use Rattle.sot_guard_program.specs.Moments.{ears, mouth}
use Rattle.sot_guard_program.proofs.Closing.{closed, closed_at_once, halted}
use Rattle.sot_guard_program.proofs.talking.talk_on.Goals as goal

pub returns-then-has_ended : goal.returns-then-has_ended
returns-then-has_ended g c =
    let e = ears (g.S.Source.left c.args.source.now) (g.S.Source.faults c.args.source.now) c.args.ear.now in
    let x = mouth (g.K.Sink.held c.args.sink.now) (g.K.Sink.faults c.args.sink.now) in
    let y = mouth (g.K.Sink.held c.finish.new.sink) (g.K.Sink.faults c.finish.new.sink) in
    closed_at_once c.args.speaker.talk c.args.lines e e x y c.finish.result.0 refl (sym c.has_ended.ensures ∙ c.if-has_ended.true) c.requires.settled
    c.finish.ensures

pub returns-in-Ok : goal.returns-in-Ok
returns-in-Ok g c =
    let e = ears (g.S.Source.left c.args.source.now) (g.S.Source.faults c.args.source.now) c.args.ear.now in
    let f = ears (g.S.Source.left c.hear_all.new.source) (g.S.Source.faults c.hear_all.new.source) c.hear_all.new.ear in
    let x = mouth (g.K.Sink.held c.args.sink.now) (g.K.Sink.faults c.args.sink.now) in
    let z = mouth (g.K.Sink.held c.hear_all.new.sink) (g.K.Sink.faults c.hear_all.new.sink) in
    let y = mouth (g.K.Sink.held c.finish-in-Ok.new.sink) (g.K.Sink.faults c.finish-in-Ok.new.sink) in
    closed c.args.speaker.talk c.args.lines e f x y c.finish-in-Ok.result.0 c.hear_all.new.self.talk z c.in-Ok.ensures
    (λ ended. absurd cc) c.finish-in-Ok.ensures

pub returns : goal.returns
returns g c =
    let e = ears (g.S.Source.left c.args.source.now) (g.S.Source.faults c.args.source.now) c.args.ear.now in
    let f = ears (g.S.Source.left c.hear_all.new.source) (g.S.Source.faults c.hear_all.new.source) c.hear_all.new.ear in
    let x = mouth (g.K.Sink.held c.args.sink.now) (g.K.Sink.faults c.args.sink.now) in
    let z = mouth (g.K.Sink.held c.hear_all.new.sink) (g.K.Sink.faults c.hear_all.new.sink) in
    let y = mouth (g.K.Sink.held c.stop.new.sink) (g.K.Sink.faults c.stop.new.sink) in
    halted c.args.speaker.talk c.args.lines e f x y c.stop.result.0 (sym c.has_ended.ensures ∙ c.if-has_ended.false) z c.in-Err.halt c.in-Err.ensures
    c.stop.ensures
