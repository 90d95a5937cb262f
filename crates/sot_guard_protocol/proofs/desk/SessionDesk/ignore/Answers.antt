use Rattle.std.proofs.Common.{◌∷◌, [], inl, inr, refl, ap, ap₂, ◌∙◌}
use Rattle.sot_trace.specs.Traces.{text_of}
use Rattle.sot_trace.proofs.Putting.{put_so}
use Rattle.sot_guard.specs.Guarding.{Guarding}
use Rattle.sot_guard_protocol.specs.Answers.{ignored_line}
use Rattle.sot_guard_protocol.specs.Talks.{Talking, tables_of, time_of}
use Rattle.sot_lang.specs.Tables.{Tables}
use Rattle.sot_guard_protocol.proofs.desk.SessionDesk.ignore.Goals as goal

pub returns : goal.returns
returns g c =
    let a = c.args.aside in
    let why = c.args.why in
    let line = c.args.line.now in
    let program = c.typed.ensures ∙ ap (λ (x : Guarding). x.accepted.program) c.guard-guard.ensures ∙ ap (λ (t : Talking). tables_of t) c.self.view_is in
    let time = c.time.ensures.value ∙ ap (λ (x : Guarding). x.at.time) c.guard-guard.ensures ∙ ap (λ (t : Talking). time_of t) c.self.view_is in (
      ignored_line (tables_of c.args.self.now) (time_of c.args.self.now) a line why ∷ [],
      inr (inl (record { aside = a; is = c.requires.is; why = why; misheard = c.requires.misheard; heard_is = refl; same = refl; answered = refl })),
      put_so g.O.Out.puts _ _ _ _ c.put_ignored.ensures (ap₂ (λ (p : Tables) n. text_of (ignored_line p n a line why ∷ [])) program time),
    )
