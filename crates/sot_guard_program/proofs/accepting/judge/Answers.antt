use Rattle.std.proofs.Common.{[], refl, inr, subst}
use Rattle.sot_tube.specs.Admitted.{Admitted}
use Rattle.sot_rta.specs.Refused.{refusal_view}
use Rattle.sot_guard_program.specs.Moments.{ears, mouth, Ended}
use Rattle.sot_guard_program.specs.Beginning.{SaysAccepted, SaysJudged}
use Rattle.sot_guard_program.proofs.Passing.{passes_nil}
use Rattle.sot_guard_program.proofs.Judged.{answered, judged}
use Rattle.sot_guard_program.proofs.Results.{refused_result}
use Rattle.sot_guard_program.proofs.accepting.judge.Goals as goal

pub returns-in-Ok : goal.returns-in-Ok
returns-in-Ok g c =
    let p = c.args.program.now in
    let cert = c.args.cert.now in
    let e = ears (g.S.Source.left c.args.source.now) (g.S.Source.faults c.args.source.now) c.args.ear.now in
    let f = ears (g.S.Source.left c.greet.new.source) (g.S.Source.faults c.greet.new.source) c.greet.new.ear in
    let x = mouth (g.K.Sink.held c.args.sink.now) (g.K.Sink.faults c.args.sink.now) in
    let y = mouth (g.K.Sink.held c.greet.new.sink) (g.K.Sink.faults c.greet.new.sink) in
    judged e f x y c.greet.result.0 c.args.time p cert c.in-Ok.ensures.answer.1 c.in-Ok.ensures.safe
    (subst (λ (a : Admitted). Ended (SaysAccepted c.args.time a) e f x y c.greet.result.0) c.in-Ok.ensures.answer.0 c.greet.ensures)

pub returns-in-Err : goal.returns-in-Err
returns-in-Err g c =
    let p = c.args.program.now in
    let cert = c.args.cert.now in
    let e = ears (g.S.Source.left c.args.source.now) (g.S.Source.faults c.args.source.now) c.args.ear.now in
    let x = mouth (g.K.Sink.held c.args.sink.now) (g.K.Sink.faults c.args.sink.now) in
    let y = mouth (g.K.Sink.held c.tell.new.sink) (g.K.Sink.faults c.tell.new.sink) in
    let view = refusal_view c.in-Err.refusal in
    answered e e x y c.tell.result.0 (SaysJudged c.args.time p cert) [] c.refused.result (passes_nil e)
    (refused_result c.args.time c.refused.result p cert e view c.in-Err.ensures.answer c.refused.ensures.status c.refused.ensures.text) (inr (inr (refl, refl)))
    c.tell.ensures
