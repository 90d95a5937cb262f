use Rattle.std.proofs.Common.{◌∙◌, ◌<◌, length, refl, sym, ap, subst, vec_capacity, arith}
use Rattle.sot_lists.specs.Places.{At}
use Rattle.sot_lists.proofs.Places.{at_below}
use Rattle.sot_ordered_board.specs.Crews.{IsOwn}
use Rattle.sot_fly_worker.specs.Rooms.{HasRoomFor}
use Rattle.sot_turn.specs.Passes.{lock_of, pass_ground}
use Rattle.sot_workers.proofs.Placing.{ground_same}
use Rattle.sot_workers.proofs.Rooms.{taken_room}
use Rattle.sot_workers.proofs.Stations.{node_shift, sent_at}
use Rattle.sot_workers.proofs.station.station_of.Goals as goal

pub assign-requires-clause-ready : goal.assign-requires-clause-ready
assign-requires-clause-ready g c κs within =
    let known = c.requires.ground in
    let there : c.args.node < length known.0.program.nodes = omega (arith, c.requires.there, known.2) in
    let own = c.is_own.ensures.0 c.if-not-is_own.false in
    let list = at_below c.args.lists.now.items c.args.node (omega (arith, c.requires.lists.nodes.each, c.requires.there)) in
    let room = taken_room (pass_ground c.args.pass) known.0 c.args.flight.now c.args.node c.args.lists.now.items (vec_capacity c.take_list.result) list.0
    c.requires.room known.1 own list.1 (ap vec_capacity (c.take_list.ensures.was list.0 list.1)) in
    (node_shift (lock_of c.args.turn.now) known.0 c.args.flight.now c.args.node _ (c.split-pass.ensures.lock.1 ∙ c.requires.lock)
    (c.split-pass.ensures.ground.1 ∙ known.1) there (c.is_own.ensures.0 c.if-not-is_own.false) c.take_list.ensures.none
    (c.split-pass.ensures.seen.1 ∙ c.requires.seen) room (c.requires.form known.0 known.1) refl refl).ready

pub assign-requires-clause-there : goal.assign-requires-clause-there
assign-requires-clause-there g c κs within =
    let empty = c.take_list.ensures.lists (length c.args.flight.now.crews) c.requires.lists in
    omega (arith, empty.nodes.each, c.requires.there)

pub returns-clause-station : goal.returns-clause-station
returns-clause-station g c = λ a is.
    let f = c.args.flight.now in
    let known = c.requires.ground in
    let same = (ground_same (pass_ground c.args.pass) known.0 a f f known.1 is).0 in
    let there : c.args.node < length a.program.nodes = omega (arith, c.requires.there, known.2, ap (λ x. length x.program.nodes) same) in
    let own = c.is_own.ensures.0 c.if-not-is_own.false in
    let list = at_below c.args.lists.now.items c.args.node (omega (arith, c.requires.lists.nodes.each, c.requires.there)) in
    let room = taken_room (pass_ground c.args.pass) a f c.args.node c.args.lists.now.items (vec_capacity c.take_list.result) list.0 c.requires.room is own list.1
    (ap vec_capacity (c.take_list.ensures.was list.0 list.1)) in
    sent_at (lock_of c.args.turn.now) a f c.args.node _ c.assign.result
    (node_shift (lock_of c.args.turn.now) a f c.args.node _ (c.split-pass.ensures.lock.1 ∙ c.requires.lock)
    (c.split-pass.ensures.ground.1 ∙ is) there (c.is_own.ensures.0 c.if-not-is_own.false) c.take_list.ensures.none
    (c.split-pass.ensures.seen.1 ∙ c.requires.seen) room (c.requires.form a is) refl refl)
    c.assign.ensures.station

pub returns-then-not-is_own-clause-station : goal.returns-then-not-is_own-clause-station
returns-then-not-is_own-clause-station g c = λ a is own. (let yes = c.is_own.ensures.1 own in let no = c.if-not-is_own.true in absurd cc)

pub returns-clause-others : goal.returns-clause-others
returns-clause-others g c = λ n list other at. c.take_list.ensures.others n list other (c.assign.ensures.others n list other at)

pub returns-clause-room : goal.returns-clause-room
returns-clause-room g c = λ none a f is n list at own.
    let node = c.args.node in
    let old = at_below c.args.lists.now.items node (omega (arith, c.requires.lists.nodes.each, c.requires.there)) in
    let here = c.assign.ensures.room list (subst (λ k. At c.assign.new.lists.items k list) own.1 at) none in
    let was = c.take_list.ensures.was old.0 old.1 in
    let room = c.requires.room a f is node old.0 old.1 (subst (IsOwn f) own.1 own.0, refl) in
    subst (λ k. HasRoomFor a.program.nodes f.horizon k (vec_capacity list.drafts)) (sym own.1)
    (subst (HasRoomFor a.program.nodes f.horizon node) (sym (here ∙ ap vec_capacity was)) room)
