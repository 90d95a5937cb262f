use Rattle.std.proofs.Common.{[], inl, refl, ap, subst, ◌∙◌}
use Rattle.sot_guard.specs.Hearing.{TakesDraft, RefusesDraft}
use Rattle.sot_guard_protocol.specs.Talks.{Talking, draft_of}
use Rattle.sot_guard_protocol.proofs.desk.SessionDesk.draft.Goals as goal

pub returns-in-Err : goal.returns-in-Err
returns-in-Err g c = λ slots same.
    let events = c.self.inside.events in
    let unchanged = ap (λ h. let t : Talking = record { hearing = h; events = events } in t) c.in-Err.ensures.0 ∙ c.self.view_is in
    let refused = subst (λ (t : Talking). RefusesDraft t.hearing c.args.node c.in-Err.why) c.self.view_is c.in-Err.ensures.1 in
    (unchanged, inl refused, g.met.O.Out.nothing _)

pub returns : goal.returns
returns g c = λ slots same.
    let k = c.draft.new.self in
    let taken = subst (λ (t : Talking). TakesDraft t.hearing c.args.node (draft_of slots) k) c.self.view_is
    (subst (λ d. TakesDraft c.self.inside.session c.args.node d k) same c.in-Ok.ensures) in
    ([], (refl, taken, ap (λ (t : Talking). t.events) c.self.view_is, refl), g.met.O.Out.nothing _)
