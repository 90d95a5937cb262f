use Rattle.std.proofs.Common.{◌≡◌, ◌++◌, sym, subst}
use Rattle.sot_tube.specs.Admitted.{Admitted}
use Rattle.sot_trace.specs.Traces.{trace_text}
use Rattle.sot_commands.specs.Steps.{TellsVerdict}
use Rattle.sot_commands.proofs.flight_text.watched.Goals as goal

pub returns : goal.returns
returns g c =
    let p = c.args.accepted.now.program in
    let b = c.args.board.now in
    let answer = c.in_ok-answer.answer in (
      trace_text b.accepted.program b.plan.start b.entries,
      c.put_board.ensures,
      subst
          (λ (a : Admitted). TellsVerdict c.args.telling p b.plan b.entries answer.status (trace_text a.program b.plan.start b.entries ++ answer.text.items))
          (sym c.requires.accepted)
          c.in_ok-answer.ensures,
    )
