use Rattle.std.proofs.Common.{sym, ap, subst, ◌∙◌}
use Rattle.sot_tube.specs.Admitted.{Admitted}
use Rattle.sot_guard.specs.Guarding.{Guarding}
use Rattle.sot_guard.specs.Hearing.{program_of}
use Rattle.sot_guard_protocol.specs.Answers.{AreThere}
use Rattle.sot_guard_protocol.proofs.Told.{told_there}
use Rattle.sot_guard_protocol.proofs.desk.SessionDesk.go.Goals as goal

pub put_instant-requires-clause-there : goal.put_instant-requires-clause-there
put_instant-requires-clause-there g c =
    let before = program_of c.self.inside.session in
    let there = told_there before c.go.new.self.told c.in-Ok.ensures.order in
    let program = c.typed.ensures ∙ ap (λ (x : Guarding). x.accepted.program) c.guard-guard.ensures
    ∙ ap (λ (a : Admitted). a.program) c.in-Ok.ensures.accepted in
    subst (λ p. AreThere p c.told-told.result.now) (sym program) (subst (AreThere before) (sym c.told-told.ensures) there)
