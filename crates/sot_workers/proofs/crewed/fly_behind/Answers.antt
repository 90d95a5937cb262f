use Rattle.std.proofs.Common.{◌≡◌, ◌∙◌, length, subst, arith}
use Rattle.sot_turn.specs.Passes.{pass_ground, pass_seen}
use Rattle.sot_ordered_board.proofs.OneHistory.{whole_in_order}
use Rattle.sot_workers.specs.Back.{AreListsBack}
use Rattle.sot_workers.specs.Sent.{IsDone}
use Rattle.sot_workers.proofs.PairFacts.{each_length}
use Rattle.sot_workers.proofs.Placing.{ground_same}
use Rattle.sot_workers.proofs.Landing.{are_home}
use Rattle.sot_workers.proofs.crewed.fly_behind.Goals as goal

pub put_back-requires : goal.put_back-requires
put_back-requires g c =
    let known = c.requires.ground in
    let back = c.fly_out-pass.ensures.back known.0 known.1 in
    let guests = c.args.room.guests in
    let dones = c.fly_out-pass.result.dones in
    let same : length dones.items ≡ length guests.items = each_length (IsDone g.C.Controller.asked known.0 c.args.flight.now back.whole) 0 guests.items
    dones.items back.each in
    record { room = (c.requires.back.0, omega (arith, same, c.requires.back.1, dones.ok.0, guests.ok.0)) }

pub returns-clause-flown : goal.returns-clause-flown
returns-clause-flown g c =
    let known = c.requires.ground in
    let f = c.args.flight.now in
    let landed = c.fly_out-pass in
    let b = c.close-board.result in
    let back = landed.ensures.back known.0 known.1 in
    let ground = landed.ensures.ground ∙ known.1 in
    let same = ground_same (pass_ground landed.result.pass) known.0 b.accepted f b.plan ground c.close-board.ensures.ground in
    let is = c.close-board.ensures.whole known.0 f back.whole ground back.seen_whole in
    (are_home g.C.Controller.asked known.0 f b c.args.room.guests.items (pass_seen landed.result.pass) landed.result.lists.items landed.result.dones.items same
    back is).flown

pub returns-clause-order : goal.returns-clause-order
returns-clause-order g c =
    let b = c.close-board.result in
    whole_in_order b.accepted.program b.accepted.cert.jitter b.plan b.entries b.position c.close-board.ensures.order (returns-clause-flown g c)

pub returns-clause-guests : goal.returns-clause-guests
returns-clause-guests g c =
    let known = c.requires.ground in
    let f = c.args.flight.now in
    let landed = c.fly_out-pass in
    let b = c.close-board.result in
    let guests = c.args.room.guests.items in
    let back = landed.ensures.back known.0 known.1 in
    let ground = landed.ensures.ground ∙ known.1 in
    let same = ground_same (pass_ground landed.result.pass) known.0 b.accepted f b.plan ground c.close-board.ensures.ground in
    let is = c.close-board.ensures.whole known.0 f back.whole ground back.seen_whole in
    let home = are_home g.C.Controller.asked known.0 f b guests (pass_seen landed.result.pass) landed.result.lists.items landed.result.dones.items same back is
    in
    c.put_back.ensures.guests b.accepted b.plan b.entries guests home.each

pub returns-clause-lists : goal.returns-clause-lists
returns-clause-lists g c =
    let known = c.requires.ground in
    let f = c.args.flight.now in
    let landed = c.fly_out-pass in
    let b = c.close-board.result in
    let guests = c.args.room.guests.items in
    let back = landed.ensures.back known.0 known.1 in
    let ground = landed.ensures.ground ∙ known.1 in
    let same = ground_same (pass_ground landed.result.pass) known.0 b.accepted f b.plan ground c.close-board.ensures.ground in
    let is = c.close-board.ensures.whole known.0 f back.whole ground back.seen_whole in
    let home = are_home g.C.Controller.asked known.0 f b guests (pass_seen landed.result.pass) landed.result.lists.items landed.result.dones.items same back is
    in
    let lists = c.put_back.ensures.lists b.accepted b.plan b.entries guests home.each home.own c.reveal_invariant.ensures.fits.guests_once in
    subst (λ n. AreListsBack n b.plan (length guests) c.put_back.new.lists.items b.entries) home.count lists
