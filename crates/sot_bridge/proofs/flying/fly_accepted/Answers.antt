use Rattle.std.proofs.Common.{refl, map, sym, ap, subst}
use Rattle.std.specs.String.{string_bytes}
use Rattle.sot_lang.specs.Tables.{Tables}
use Rattle.sot_lang.specs.TableRules.{MeetsTableRules}
use Rattle.sot_tube.specs.Admitted.{Admitted}
use Rattle.sot_flight.specs.Plans.{Plan}
use Rattle.sot_flight.specs.Relayed.{send_of}
use Rattle.sot_ordered_board.specs.Crews.{HasNoGuests}
use Rattle.sot_bridge.specs.Sides.{side_with}
use Rattle.sot_bridge.proofs.Forms.{no_guests, starts_inside, topic_within, relays, first_of, flights_result, flights_outside}
use Rattle.sot_bridge.proofs.flying.fly_accepted.Goals as goal

pub fly_first-requires-clause-no_guests : goal.fly_first-requires-clause-no_guests
fly_first-requires-clause-no_guests g c κs within =
    subst (λ (f : Plan). HasNoGuests f) (sym c.in-Ok.ensures.plan) (no_guests c.args.a.now.program c.args.a_flight.now c.requires.a_fits)

pub fly_first-requires-clause-topic : goal.fly_first-requires-clause-topic
fly_first-requires-clause-topic g c κs within =
    topic_within c.args.a.now.program c.in-Ok.board.accepted.program (side_with c.args.a.now c.args.a_flight.now)
    (side_with c.args.b.now c.args.b_flight.now) c.requires.joins.0 c.requires.joins.1 c.args.delay c.args.joint.from c.args.joint.to
    (ap (λ (x : Admitted). x.program) c.in-Ok.ensures.accepted) refl c.requires.joins.2

pub relay_to-requires-clause-may : goal.relay_to-requires-clause-may
relay_to-requires-clause-may g c κs within =
    let first = c.in_ok-first-in-Ok in
    relays (side_with c.args.a.now c.args.a_flight.now) (side_with c.args.b.now c.args.b_flight.now) c.requires.joins.0 c.requires.joins.1 c.args.delay
    c.args.joint.from c.args.joint.to (string_bytes first.first.text) (map send_of first.first.sends.items)
    (subst (λ (t : Tables). MeetsTableRules t) c.typed-p.ensures.program c.look_at.ensures)
    (subst (λ (t : Tables). MeetsTableRules t) c.typed-q.ensures.program c.look_at-2.ensures)
    c.typed-p.ensures.certified c.requires.joins.2
    (first_of c.in-Ok.board.accepted c.args.a.now c.args.a_flight.now c.in-Ok.board.plan c.args.joint.from (string_bytes first.first.text)
    (map send_of first.first.sends.items) c.in-Ok.ensures.accepted c.in-Ok.ensures.plan first.ensures)

pub returns-in_ok-first-in-Ok : goal.returns-in_ok-first-in-Ok
returns-in_ok-first-in-Ok g c =
    let first = c.in_ok-first-in-Ok in
    flights_result (side_with c.args.a.now c.args.a_flight.now) (side_with c.args.b.now c.args.b_flight.now) c.args.delay c.args.joint.from c.args.joint.to
    c.relay_to.result (string_bytes first.first.text) (map send_of first.first.sends.items)
    (first_of c.in-Ok.board.accepted c.args.a.now c.args.a_flight.now c.in-Ok.board.plan c.args.joint.from (string_bytes first.first.text)
    (map send_of first.first.sends.items) c.in-Ok.ensures.accepted c.in-Ok.ensures.plan first.ensures)
    (starts_inside c.args.a.now.program c.args.a_flight.now c.in-Ok.board.position c.in-Ok.ensures.start c.in-Ok.ensures.safer)
    c.relay_to.ensures

pub returns-in-Err-NotSafer : goal.returns-in-Err-NotSafer
returns-in-Err-NotSafer g c =
    flights_outside (side_with c.args.a.now c.args.a_flight.now) (side_with c.args.b.now c.args.b_flight.now) c.args.delay c.args.joint.from c.args.joint.to
    c.outside.result c.typed-p.result.now c.typed-p.ensures.program c.outside.ensures.status c.outside.ensures.text
