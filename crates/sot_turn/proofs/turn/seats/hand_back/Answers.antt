use Rattle.std.proofs.Common.{rules}
use Rattle.sot_turn.proofs.Handing.{puts_back, has_announced}
use Rattle.sot_turn.proofs.Announcing.{announces_keep}
use Rattle.sot_turn.proofs.Passing.{passes_keep}
use Rattle.sot_turn.proofs.turn.seats.hand_back.Goals as goal

pub store-requires : goal.store-requires
store-requires g c =
    let back = puts_back g.G.Journal.ground g.G.Journal.entries c.args.value c.args.place.now.me c.exchange-nothing.new.seat.me c.requires.served
    c.requires.ground c.requires.goes_on c.exchange-nothing.ensures.3 in
    (search rules, search rules, announces_keep g.G.Journal.ground g.G.Journal.entries _ _ _ _ c.args.value back c.len-len.ensures)

pub fetch_add-requires : goal.fetch_add-requires
fetch_add-requires g c =
    let back = puts_back g.G.Journal.ground g.G.Journal.entries c.args.value c.args.place.now.me c.exchange-nothing.new.seat.me c.requires.served
    c.requires.ground c.requires.goes_on c.exchange-nothing.ensures.3 in
    let told = c.store.ensures.2 c.args.value back.slot in
    let announced = has_announced g.G.Journal.ground g.G.Journal.entries c.args.value _ _ back told in
    (search rules, search rules, passes_keep g.G.Journal.ground g.G.Journal.entries _ _ _ c.args.value (search rules) announced)
