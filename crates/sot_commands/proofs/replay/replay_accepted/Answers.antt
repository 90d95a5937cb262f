use Rattle.std.proofs.Common.{subst, IfOk, length}
use Rattle.sot_lang.specs.Tables.{Tables}
use Rattle.sot_world.specs.Opens.{StartInside, IsFirstOutside}
use Rattle.sot_trace_lines.specs.LentLines.{Lending, lent_lines}
use Rattle.sot_replay.specs.Replays.{IsRefusedAt, MatchFail}
use Rattle.sot_commands.specs.Answers.{IsOutsideOf}
use Rattle.sot_commands.proofs.Replayed.{illegal_result, unstarted_result}
use Rattle.sot_commands.proofs.replay.replay_accepted.Goals as goal

pub returns-in-Err-NotSafer : goal.returns-in-Err-NotSafer
returns-in-Err-NotSafer c =
    let said = subst (λ (t : Tables). IfOk c.outside.result (λ a. IsOutsideOf t c.args.flight.now a.text.items)) c.typed.ensures.program c.outside.ensures.text
    in
    unstarted_result c.outside.result c.args.accepted.now.program c.args.accepted.now.cert.jitter c.args.flight.now (lent_lines c.args.trace.now)
    c.outside.ensures.status said

pub returns-in-Err-Line : goal.returns-in-Err-Line
returns-in-Err-Line c =
    let p = c.args.accepted.now.program in
    let jitter = c.args.accepted.now.cert.jitter in
    let f = c.args.flight.now in
    let refused = subst (λ e. MatchFail e (IsFirstOutside p f.start) (IsRefusedAt p jitter f c.new.result.to_come)) c.in-Err-Line.field-0-is
    c.in-Err-Line.ensures.refused in
    let inside = subst (λ e. MatchFail e (λ _. Unit {0}) (λ _ _. StartInside p f.start (length p.modules))) c.in-Err-Line.field-0-is
    c.in-Err-Line.ensures.inside in
    let there = subst (λ (l : Lending). IsRefusedAt p jitter f l.to_come c.in-Err-Line.line c.in-Err-Line.kind) c.new.ensures refused in
    illegal_result c.refused_line.result p jitter f (lent_lines c.args.trace.now) c.in-Err-Line.line c.in-Err-Line.kind inside there
    c.refused_line.ensures.status c.refused_line.ensures.text
