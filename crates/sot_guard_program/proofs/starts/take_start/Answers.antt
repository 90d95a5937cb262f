use Rattle.std.proofs.Common.{◌≡◌, ◌∷◌, [], take, subst, OnOk, OnErr, IfErr}
use Rattle.sot_trace_lines.specs.LentLines.{lent_lines}
use Rattle.sot_guard_protocol.specs.Openings.{TakesStart, IsNoStart}
use Rattle.sot_guard_program.proofs.starts.take_start.Goals as goal

pub returns-in-Ok : goal.returns-in-Ok
returns-in-Ok c =
    let line = c.without_end.result.now in
    record {
      line = line;
      is = subst (λ bytes. lent_lines (take c.args.len bytes) ≡ line ∷ []) c.bytes.ensures.value c.without_end.ensures;
      takes = subst (λ r. OnOk r (TakesStart c.args.opening.now line c.hear-heard.new.self)) c.in-Ok.is c.hear-heard.ensures.heard;
      waiting = c.pass.ensures.waiting;
      ended = c.pass.ensures.ended;
    }

pub returns-in-Err : goal.returns-in-Err
returns-in-Err c =
    let line = c.without_end.result.now in
    record {
      line = line;
      is = subst (λ bytes. lent_lines (take c.args.len bytes) ≡ line ∷ []) c.bytes.ensures.value c.without_end.ensures;
      takes = (
        subst (λ r. OnErr r (c.hear-heard.new.self ≡ c.args.opening.now)) c.in-Err.is c.hear-heard.ensures.same,
        subst (λ r. IfErr r (IsNoStart c.args.opening.now line)) c.in-Err.is c.hear-heard.ensures.unheard,
      );
      waiting = c.pass.ensures.waiting;
      ended = c.pass.ensures.ended;
    }
