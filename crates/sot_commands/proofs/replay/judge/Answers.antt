use Rattle.std.proofs.Common.{subst, IfOk}
use Rattle.sot_tube.specs.Admitted.{Admitted}
use Rattle.sot_rta.specs.Refused.{refusal_view}
use Rattle.sot_trace_lines.specs.LentLines.{lent_lines}
use Rattle.sot_commands.specs.Steps.{JudgesLines}
use Rattle.sot_commands.proofs.Replayed.{lines_result, unreplayed_result}
use Rattle.sot_commands.proofs.replay.judge.Goals as goal

pub returns-in-Ok : goal.returns-in-Ok
returns-in-Ok g c =
    let answer = c.in-Ok.ensures.answer in
    let judges = subst (λ (x : Admitted). IfOk c.replay_accepted.result
    (λ a. JudgesLines x.program x.cert.jitter c.args.flight.now (lent_lines c.args.trace.now) a.status a.text.items)) answer.0 c.replay_accepted.ensures in
    lines_result c.replay_accepted.result c.args.program.now c.args.cert.now c.args.flight.now (lent_lines c.args.trace.now) answer.1 c.in-Ok.ensures.safe
    judges

pub returns-in-Err : goal.returns-in-Err
returns-in-Err g c =
    unreplayed_result c.refused.result c.args.program.now c.args.cert.now c.args.flight.now (lent_lines c.args.trace.now) (refusal_view c.in-Err.refusal)
    c.in-Err.ensures.answer c.refused.ensures.status c.refused.ensures.text
