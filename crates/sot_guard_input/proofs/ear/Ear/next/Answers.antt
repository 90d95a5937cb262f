use Rattle.std.proofs.Common.{ap, ◌∙◌, subst}
use Rattle.sot_guard_input.specs.Waiting.{has_end, Waits}
use Rattle.sot_guard_input.proofs.Pieces.{is_line, is_next}
use Rattle.sot_guard_input.proofs.ear.Ear.next.Goals as goal

pub returns-in-Ok-Line-clause-next : goal.returns-in-Ok-Line-clause-next
returns-in-Ok-Line-clause-next g c =
    let left = g.S.Source.left c.wait.new.source in
    let waits = subst (λ w. Waits w c.wait.new.self left) c.in-Ok-Line.field-0-is c.in-Ok-Line.ensures.waits in
    is_line c.in-Ok-Line.len left _ waits.0 waits.1 c.requires.open

pub returns-in-Ok-Last-clause-next : goal.returns-in-Ok-Last-clause-next
returns-in-Ok-Last-clause-next g c =
    let left = g.S.Source.left c.wait.new.source in
    let waits = subst (λ w. Waits w c.wait.new.self left) c.in-Ok-Last.field-0-is c.in-Ok-Last.ensures.waits in
    is_next c.last.result left c.last.new.self c.last.ensures.last (ap has_end c.last.ensures.same ∙ waits.0) waits.1
