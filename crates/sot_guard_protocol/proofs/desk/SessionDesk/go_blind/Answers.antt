use Rattle.std.proofs.Common.{◌∷◌, [], inr, refl, sym, ap, ◌∙◌}
use Rattle.sot_trace.specs.Traces.{text_of}
use Rattle.sot_trace.proofs.Putting.{put_so}
use Rattle.sot_guard.specs.Guarding.{Guarding}
use Rattle.sot_guard_protocol.specs.Answers.{blind_line}
use Rattle.sot_guard_protocol.specs.Talks.{Talking, time_of}
use Rattle.sot_guard_protocol.proofs.Lines.{text_of-append}
use Rattle.sot_guard_protocol.proofs.desk.SessionDesk.go_blind.Goals as goal

pub returns : goal.returns
returns g c =
    let why = c.args.why in
    let k = c.lose_sight.new.self in
    let puts = g.O.Out.puts in
    let time = c.time.ensures.value ∙ ap (λ (x : Guarding). x.at.time) c.guard.ensures ∙ ap (λ (t : Talking). time_of t) c.self.view_is in
    let first = put_so puts _ _ _ _ c.put_blind.ensures (ap (λ n. text_of (blind_line n why ∷ [])) time) in
    let on = c.go_on_blind.ensures in
    let line = blind_line (time_of k) why in (
      line ∷ on.0,
      inr (inr (record {
        none = c.requires.none;
        why = why;
        misheard = c.requires.misheard;
        heard_is = refl;
        unseeing = k;
        loses = c.lose_sight.ensures.loses;
        more = on.0;
        goes_on = on.1;
        answered = refl;
      })),
      put_so puts _ _ _ _ (g.met.O.Out.more _ _ _ _ _ first on.2) (sym (text_of-append (line ∷ []) on.0)),
    )
