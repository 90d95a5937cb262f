use Rattle.std.proofs.Common.{sym, subst}
use Rattle.std.specs.String.{string_bytes}
use Rattle.sot_flight.specs.Plans.{Plan}
use Rattle.sot_ordered_board.specs.Crews.{HasNoGuests}
use Rattle.sot_bridge.proofs.Forms.{no_guests, starts_inside, relayed_result, relayed_outside}
use Rattle.sot_bridge.proofs.flying.fly_relayed.Goals as goal

pub fly_second-requires-clause-no_guests : goal.fly_second-requires-clause-no_guests
fly_second-requires-clause-no_guests g c κs within =
    subst (λ (f : Plan). HasNoGuests f) (sym c.in-Ok.ensures.plan) (no_guests c.args.accepted.now.program c.args.relayed.now c.requires)

pub returns-in-Ok : goal.returns-in-Ok
returns-in-Ok g c =
    let opened = c.in-Ok.ensures in
    relayed_result c.fly_second.result c.in-Ok.board.accepted c.args.accepted.now c.args.relayed.now c.in-Ok.board.plan (string_bytes c.args.text)
    opened.accepted opened.plan
    (starts_inside c.args.accepted.now.program c.args.relayed.now c.in-Ok.board.position opened.start opened.safer)
    c.fly_second.ensures.status c.fly_second.ensures.text

pub returns-in-Err-NotSafer : goal.returns-in-Err-NotSafer
returns-in-Err-NotSafer g c =
    relayed_outside c.outside.result c.args.accepted.now c.typed.result.now c.args.relayed.now (string_bytes c.args.text) c.typed.ensures.program
    c.outside.ensures.status c.outside.ensures.text
