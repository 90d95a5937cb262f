use Rattle.std.proofs.Common.{◌∷◌, [], refl, ap, ap₂, subst, ◌∙◌}
use Rattle.sot_trace.specs.Traces.{text_of}
use Rattle.sot_trace.proofs.Putting.{put_so}
use Rattle.sot_guard.specs.Guarding.{Guarding}
use Rattle.sot_guard_protocol.specs.Answers.{resume_line}
use Rattle.sot_guard_protocol.specs.Talks.{Talking, AnswersResume}
use Rattle.sot_guard_protocol.proofs.desk.SessionDesk.resume.Goals as goal

pub returns : goal.returns
returns g c =
    let m = c.in-Ok.refused in
    let k = c.resume.new.self in
    let program = c.typed.ensures ∙ ap (λ (x : Guarding). x.accepted.program) c.guard-guard.ensures in
    let time = c.time.ensures.value ∙ ap (λ (x : Guarding). x.at.time) c.guard-guard.ensures in (
      resume_line k.guarding.accepted.program k.guarding.at.time m ∷ [],
      (
        m,
        refl,
        subst (λ (t : Talking). AnswersResume t.hearing m k) c.self.view_is c.in-Ok.ensures,
        ap (λ (t : Talking). t.events) c.self.view_is,
        refl,
      ),
      put_so g.O.Out.puts _ _ _ _ c.put_resume.ensures (ap₂ (λ p n. text_of (resume_line p n m ∷ [])) program time),
    )
