use Rattle.std.proofs.Common.{◌≡◌, ◌∷◌, [], take, subst}
use Rattle.sot_trace_lines.specs.LentLines.{lent_lines}
use Rattle.sot_guard_program.proofs.speaker.Speaker.take.Goals as goal

pub returns : goal.returns
returns g c =
    let line = c.without_end-line.result.now in
    record {
      line = line;
      is = subst (λ bytes. lent_lines (take c.args.len bytes) ≡ line ∷ []) c.bytes.ensures.value c.without_end-line.ensures;
      answers = c.answer-answered.ensures;
      waiting = c.pass.ensures.waiting;
      ended = c.pass.ensures.ended;
    }
