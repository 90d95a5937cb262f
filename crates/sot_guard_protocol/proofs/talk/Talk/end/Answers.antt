use Rattle.std.proofs.Common.{◌∷◌, [], ap, ap₂, ◌∙◌}
use Rattle.sot_trace.specs.Traces.{text_of}
use Rattle.sot_trace.proofs.Putting.{put_so}
use Rattle.sot_guard.specs.Guarding.{Guarding}
use Rattle.sot_guard_lines.specs.Lines.{end_line}
use Rattle.sot_guard.specs.Hearing.{Hearing}
use Rattle.sot_guard_protocol.specs.Talks.{Talking}
use Rattle.sot_guard_protocol.proofs.talk.Talk.end.Goals as goal

pub returns : goal.returns
returns g c =
    let session = c.session.ensures ∙ ap (λ (t : Talking). t.hearing) c.self.view_is in
    let guard = c.guard.ensures ∙ ap (λ (h : Hearing). h.guarding) session in
    let time = c.time.ensures.value ∙ ap (λ (x : Guarding). x.at.time) guard in
    let events = c.events.ensures ∙ ap (λ (t : Talking). t.events) c.self.view_is in
    put_so g.O.Out.puts _ _ _ _ (g.met.O.Out.more _ _ _ _ _ c.put_end.ensures c.put_byte.ensures)
    (ap₂ (λ t e. text_of (end_line t e ∷ [])) time events)
