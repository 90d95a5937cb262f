use Rattle.std.proofs.Common.{◌≡◌, ◌∙◌, ◌≤◌, length, vec_len, vec_capacity, sym, subst, arith}
use Rattle.sot_turn.specs.Passes.{lock_of, pass_ground, pass_seen}
use Rattle.sot_ordered_board.specs.Crews.{IsOwn}
use Rattle.sot_workers.specs.Flying.{IsMine}
use Rattle.sot_workers.specs.Lists.{AreMine, HaveRoomIn}
use Rattle.sot_workers.proofs.Rooms.{room_along}
use Rattle.sot_workers.specs.Sent.{IsPlaced}
use Rattle.sot_workers.proofs.Histories.{goes_here, goes_further}
use Rattle.sot_workers.proofs.PairFacts.{each_length}
use Rattle.sot_workers.proofs.Landing.{callers_begin}
use Rattle.sot_workers.proofs.crewed.fly_in.Goals as goal

pub station_each-pass-requires-clause-ground : goal.station_each-pass-requires-clause-ground
station_each-pass-requires-clause-ground g c κs within = (let known = c.requires.ground in (known.0, c.place_each-pass.ensures.ground ∙ known.1, known.2))

pub station_each-pass-requires-clause-forms : goal.station_each-pass-requires-clause-forms
station_each-pass-requires-clause-forms g c κs within = λ a is. c.requires.forms a (sym c.place_each-pass.ensures.ground ∙ is)

pub station_each-pass-requires-clause-stations : goal.station_each-pass-requires-clause-stations
station_each-pass-requires-clause-stations g c κs within = (c.requires.room.no_stations, c.requires.room.stations)

pub station_each-pass-requires-clause-away : goal.station_each-pass-requires-clause-away
station_each-pass-requires-clause-away g c κs within = (c.requires.room.no_away, c.requires.room.away)

pub watch-pass-requires-clause-callers : goal.watch-pass-requires-clause-callers
watch-pass-requires-clause-callers g c =
    let known = c.requires.ground in
    let placed = c.place_each-pass in
    let stationed = c.station_each-pass in
    let f = c.args.flight.now in (
      known.0,
      f,
      callers_begin known.0 f c.as_slice.result.now (pass_ground stationed.result.0) (pass_seen stationed.result.0) stationed.new.lists.items
          (stationed.ensures.ground ∙ (placed.ensures.ground ∙ known.1)) known.2 stationed.ensures.seen stationed.ensures.lists,
    )

pub station_each-pass-requires-clause-room : goal.station_each-pass-requires-clause-room
station_each-pass-requires-clause-room g c κs within =
    room_along (pass_ground c.args.leaving.pass) (pass_ground c.place_each-pass.result.0) IsOwn c.place_each-pass.new.lists.items c.place_each-pass.ensures.ground
    c.place_each-pass.ensures.drafts

pub watch-pass-requires-clause-room : goal.watch-pass-requires-clause-room
watch-pass-requires-clause-room g c =
    let stationed = c.station_each-pass in
    subst (λ noted. HaveRoomIn (pass_ground stationed.result.0) (λ f. IsMine f noted) stationed.new.lists.items) (sym c.as_slice.ensures.value)
    (room_along (pass_ground c.place_each-pass.result.0) (pass_ground stationed.result.0) (λ f. IsMine f stationed.result.2.items) stationed.new.lists.items
    stationed.ensures.ground stationed.ensures.room)

pub watch-pass-requires-clause-places : goal.watch-pass-requires-clause-places
watch-pass-requires-clause-places g c =
    let known = c.requires.ground in
    (known.0, c.args.flight.now, c.args.leaving.room.guests.items, c.place_each-pass.ensures.placed known.0 known.1)

pub relieve_each-pass-requires-clause-stationed : goal.relieve_each-pass-requires-clause-stationed
relieve_each-pass-requires-clause-stationed g c =
    let known = c.requires.ground in
    (known.0, c.args.flight.now, c.station_each-pass.result.2.items, c.station_each-pass.ensures.stationed known.0 (c.place_each-pass.ensures.ground ∙ known.1))

pub relieve_each-pass-requires-clause-room : goal.relieve_each-pass-requires-clause-room
relieve_each-pass-requires-clause-room g c = (
  c.requires.room.no_relieved,
  omega (arith, c.station_each-pass.ensures.count, c.requires.room.relieved, c.station_each-pass.result.1.ok.0),
)

pub join_each-pass-requires-clause-placed : goal.join_each-pass-requires-clause-placed
join_each-pass-requires-clause-placed g c =
    let known = c.requires.ground in
    let f = c.args.flight.now in
    let guests = c.args.leaving.room.guests.items in
    (known.0, f, guests, c.watch-pass.ensures.places known.0 f guests (c.place_each-pass.ensures.placed known.0 known.1))

pub join_each-pass-requires-clause-room : goal.join_each-pass-requires-clause-room
join_each-pass-requires-clause-room g c =
    let known = c.requires.ground in
    let f = c.args.flight.now in
    let guests = c.args.leaving.room.guests in
    let places = c.watch-pass.new.places in
    let P = IsPlaced g.C.Controller.asked (lock_of c.args.turn.now) known.0 f in
    let each = c.watch-pass.ensures.places known.0 f guests.items (c.place_each-pass.ensures.placed known.0 known.1) in
    let same : length places.items ≡ length guests.items = each_length P 0 guests.items places.items each in
    let dones : vec_len guests ≤ vec_capacity c.args.leaving.room.dones = c.requires.room.dones in
    (c.requires.room.no_dones, omega (arith, same, dones, places.ok.0, guests.ok.0))

pub returns : goal.returns
returns g c = record {
  lock =
      c.join_each-pass.ensures.lock ∙ (c.relieve_each-pass.ensures.lock ∙ (c.watch-pass.ensures.lock
      ∙ (c.station_each-pass.ensures.lock ∙ c.place_each-pass.ensures.lock)));
  ground =
      c.join_each-pass.ensures.ground ∙ (c.relieve_each-pass.ensures.ground ∙ (c.watch-pass.ensures.ground
      ∙ (c.station_each-pass.ensures.ground ∙ c.place_each-pass.ensures.ground)));
  back = λ a is.
      let f = c.args.flight.now in
      let guests = c.args.leaving.room.guests.items in
      let whole = pass_seen c.watch-pass.result in
      let begun = c.place_each-pass.ensures.ground ∙ is in
      let ground = c.station_each-pass.ensures.ground ∙ begun in
      let flown = c.watch-pass.ensures.finished a f ground in
      let placed = c.watch-pass.ensures.places a f guests (c.place_each-pass.ensures.placed a is) in
      let stationed = c.station_each-pass.ensures.stationed a begun in
      let away = c.station_each-pass.result.2.items in
      let relieved = c.relieve_each-pass.ensures.relieved a f whole away (flown, goes_here whole) stationed in
      record {
        whole = whole;
        seen_whole = (
          flown,
          goes_further whole (pass_seen c.relieve_each-pass.result.0) (pass_seen c.join_each-pass.result.0) c.relieve_each-pass.ensures.seen
              c.join_each-pass.ensures.seen,
        );
        own = c.put_each.ensures (length a.program.nodes) f away whole relieved
            (subst (λ noted. AreMine (length a.program.nodes) f noted c.watch-pass.new.lists.items whole) c.as_slice.ensures.value
            (c.watch-pass.ensures.callers a f ground).own);
        each = c.join_each-pass.ensures.done a f whole guests (flown, c.relieve_each-pass.ensures.seen) placed;
      };
}
