use Rattle.std.proofs.Common.{ap, ap₂, ◌∙◌}
use Rattle.sot_lang.specs.Tables.{Tables}
use Rattle.sot_trace.proofs.Putting.{put_so}
use Rattle.sot_guard.specs.Guarding.{Guarding}
use Rattle.sot_guard.specs.Hearing.{Hearing}
use Rattle.sot_guard_protocol.specs.Answers.{begins_text}
use Rattle.sot_guard_protocol.specs.Talks.{Talking}
use Rattle.sot_guard_protocol.proofs.talk.Talk.greet.Goals as goal

pub returns : goal.returns
returns g c =
    let session = c.session.ensures ∙ ap (λ (t : Talking). t.hearing) c.self.view_is in
    let guard = c.guard-guard.ensures ∙ ap (λ (h : Hearing). h.guarding) session in
    let program = c.typed.ensures ∙ ap (λ (x : Guarding). x.accepted.program) guard in
    let time = c.time.ensures.value ∙ ap (λ (x : Guarding). x.at.time) guard in
    put_so g.O.Out.puts _ _ _ _ (g.met.O.Out.more _ _ _ _ _ c.put_begins.ensures c.put_byte.ensures)
    (ap₂ (λ (p : Tables) n. begins_text p n) program time)
