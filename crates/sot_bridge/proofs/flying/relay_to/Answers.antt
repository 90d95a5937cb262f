use Rattle.std.proofs.Common.{List, map, sym, ap, ◌∙◌, subst, IfOk}
use Rattle.std.specs.String.{string_bytes}
use Rattle.sot_lang.specs.Tables.{Tables}
use Rattle.sot_flight.specs.declared.sent.Sent.{Sent}
use Rattle.sot_flight.specs.Fits.{FitsFlight}
use Rattle.sot_flight.specs.Plans.{Plan}
use Rattle.sot_flight.specs.Relayed.{send_of, relayed, MayRelay}
use Rattle.sot_bridge.specs.Steps.{SaysRelayed}
use Rattle.sot_bridge.proofs.flying.relay_to.Goals as goal

pub relay-requires-clause-fits : goal.relay-requires-clause-fits
relay-requires-clause-fits g c = (0, subst (λ (t : Tables). FitsFlight t 0 c.args.flight.now) (sym c.typed.ensures.program) c.requires.fits)

pub relay-requires-clause-may : goal.relay-requires-clause-may
relay-requires-clause-may g c =
    subst (λ (t : Tables). MayRelay t c.args.flight.now c.args.topic c.args.delay (map send_of c.deref.result.now)) (sym c.typed.ensures.program)
    (subst (λ (s : List Sent). MayRelay c.args.accepted.now.program c.args.flight.now c.args.topic c.args.delay (map send_of s)) (sym c.deref.ensures.value)
    c.requires.may)

pub fly_relayed-requires : goal.fly_relayed-requires
fly_relayed-requires g c =
    let fits = subst (λ (t : Tables). FitsFlight t 0 c.args.flight.now) (sym c.typed.ensures.program) c.requires.fits in
    (c.type_bounds.sync-R, subst (λ (t : Tables). FitsFlight t 0 c.in_ok-relayed.relayed) c.typed.ensures.program (c.in_ok-relayed.ensures.fits 0 fits))

pub returns : goal.returns
returns g c =
    let is = c.in_ok-relayed.ensures.relayed
    ∙ ap (λ (s : List Sent). relayed c.args.topic c.args.delay (map send_of s) c.args.flight.now) c.deref.ensures.value in
    subst (λ (f : Plan). IfOk c.fly_relayed.result
    (λ a. SaysRelayed c.args.accepted.now.program c.args.accepted.now.cert.jitter f (string_bytes c.args.first.text) a.status a.text.items)) is
    c.fly_relayed.ensures
