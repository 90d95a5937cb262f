use Rattle.std.proofs.Common.{[], inr, refl, sym, subst, append-nil, arith}
use Rattle.sot_guard_protocol.specs.Talks.{Talking, tables_of, time_of}
use Rattle.sot_guard_protocol.specs.Answers.{begins_text}
use Rattle.sot_guard_program.specs.Moments.{ears, mouth, Ended}
use Rattle.sot_guard_program.specs.Says.{SaysTalk, SaysBegun}
use Rattle.sot_guard_program.specs.Beginning.{SaysFrom}
use Rattle.sot_guard_program.proofs.Passing.{passes_nil, ended_behind, ended_well}
use Rattle.sot_guard_program.proofs.talking.begin_talk.Goals as goal

pub returns-in-Ok : goal.returns-in-Ok
returns-in-Ok g c =
    let t = c.args.speaker.talk in
    let n = c.args.lines in
    let ended = c.args.ear.now.ended in
    let e = ears (g.S.Source.left c.args.source.now) (g.S.Source.faults c.args.source.now) c.args.ear.now in
    let f = ears (g.S.Source.left c.talk_on.new.source) (g.S.Source.faults c.talk_on.new.source) c.talk_on.new.ear in
    let x = mouth (g.K.Sink.held c.args.sink.now) (g.K.Sink.faults c.args.sink.now) in
    let z = mouth (g.K.Sink.held c.greet.new.sink) (g.K.Sink.faults c.greet.new.sink) in
    let y = mouth (g.K.Sink.held c.talk_on.new.sink) (g.K.Sink.faults c.talk_on.new.sink) in
    let status = c.talk_on.result.0 in
    let on = subst (λ (u : Talking). Ended (SaysFrom ended (SaysTalk u n)) e f z y status) c.greet.ensures.same c.talk_on.ensures in
    ended_behind (SaysFrom ended (SaysTalk t n)) (SaysFrom ended (SaysBegun t n)) e e f x z y [] (begins_text (tables_of t) (time_of t)) status (passes_nil e)
    c.in-Ok.ensures.well (λ said bytes text says. ((text, refl, says.0), says.1)) on

pub returns-in-Err : goal.returns-in-Err
returns-in-Err g c =
    let t = c.args.speaker.talk in
    let ended = c.args.ear.now.ended in
    let e = ears (g.S.Source.left c.args.source.now) (g.S.Source.faults c.args.source.now) c.args.ear.now in
    let x = mouth (g.K.Sink.held c.args.sink.now) (g.K.Sink.faults c.args.sink.now) in
    let y = mouth (g.K.Sink.held c.greet.new.sink) (g.K.Sink.faults c.greet.new.sink) in
    let text = begins_text (tables_of t) (time_of t) in
    ended_well (SaysFrom ended (SaysBegun t c.args.lines)) e e x y [] text 4 5 (passes_nil e) (λ four. absurd (omega arith))
    (([], sym (append-nil text), inr (inr (record { last = t; answered = (refl, refl); said_is = refl }))), λ _. refl)
    (inr (refl, c.in-Err.ensures.cut.0, c.in-Err.ensures.cut.1))
