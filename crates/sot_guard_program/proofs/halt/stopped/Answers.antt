use Rattle.std.proofs.Common.{sym, subst}
use Rattle.sot_guard_program.specs.Lines.{at_line}
use Rattle.sot_guard_program.specs.Moments.{mouth}
use Rattle.sot_guard_program.specs.Tellings.{Tells, TellsStop}
use Rattle.sot_guard_program.proofs.halt.stopped.Goals as goal

pub returns-in-Misheard : goal.returns-in-Misheard
returns-in-Misheard g c =
    let before = mouth (g.K.Sink.held c.args.sink.now) (g.K.Sink.faults c.args.sink.now) in
    let after = mouth (g.K.Sink.held c.tell_fault.new.sink) (g.K.Sink.faults c.tell_fault.new.sink) in
    let line = c.args.halt.line in
    let status = c.tell_fault.result.0 in
    subst (λ stop. TellsStop stop line before after status) (sym c.in-Misheard.is)
    (subst (λ word. Tells 3 (at_line line word) before after status) c.misheard_word.ensures c.tell_fault.ensures)
