use Rattle.std.proofs.Common.{◌≡◌, ◌∙◌, ◌+◌, ◌<◌, ◌∷◌, ◌++◌, [], length, refl, sym, subst, arith, rules}
use Rattle.std.proofs.lemmas.Option.{slice_get_read}
use Rattle.sot_turn.specs.Passes.{lock_of, pass_ground}
use Rattle.sot_ordered_board.specs.Crews.{IsOwn}
use Rattle.sot_workers.specs.Flying.{IsMine, IsMineAmong}
use Rattle.sot_workers.specs.Lists.{HaveRoomIn}
use Rattle.sot_workers.proofs.Rooms.{room_fewer, room_along, room_stationed}
use Rattle.sot_workers.specs.Pairs.{EachFrom}
use Rattle.sot_workers.specs.Stations.{IsAt, IsStationed}
use Rattle.sot_workers.proofs.PairFacts.{each_more}
use Rattle.sot_workers.proofs.station.station_each.Goals as goal

pub loop-place-init : goal.loop-place-init
loop-place-init g c = record {
  lock = refl;
  ground = refl;
  seen = c.requires.seen;
  lists = c.requires.lists;
  drafts = room_fewer (pass_ground c.args.pass) IsOwn (IsMineAmong 0 c.args.away.items) c.args.lists.now.items (λ f n mine. mine.0) c.requires.room;
  count = search rules;
  same = search rules;
  room = c.requires.stations.1;
  away = c.requires.away.1;
  forms = c.requires.forms;
  stationed = λ a is.
      let R = IsStationed (lock_of c.args.turn.now) a c.args.flight.now in
      subst (λ xs. EachFrom R 0 xs c.args.stations.items) (sym c.requires.away.0) (subst (λ ys. EachFrom R 0 [] ys) (sym c.requires.stations.0) tt);
}

pub station_of-back-requires-clause-ground : goal.station_of-back-requires-clause-ground
station_of-back-requires-clause-ground g c κs within = (let known = c.requires.ground in (known.0, c.loop-place.invariant.ground ∙ known.1, known.2))

pub station_of-back-requires-clause-there : goal.station_of-back-requires-clause-there
station_of-back-requires-clause-there g c =
    let all = c.loop-place.invariant.lists.nodes in
    let lists = c.loop-place.lists.items in
    let place = c.loop-place.place in
    let there : place < length lists = omega (arith, all.each, c.len-count.ensures, c.args.lists.now.ok.0, c.requires.lists.nodes.each) in
    let same : c.index.result.now.node ≡ place =
    all.nodes place c.index.result.now (slice_get_read lists (length lists) place c.index.result.now refl there c.index.ensures) in
    omega (arith, same, there, all.each)

pub station_of-back-requires-clause-room : goal.station_of-back-requires-clause-room
station_of-back-requires-clause-room g c κs within =
    let inv = c.loop-place.invariant in
    let lists = c.loop-place.lists.items in
    let place = c.loop-place.place in
    let there : place < length lists = omega (arith, inv.lists.nodes.each, c.len-count.ensures, c.args.lists.now.ok.0, c.requires.lists.nodes.each) in
    let same : c.index.result.now.node ≡ place =
    inv.lists.nodes.nodes place c.index.result.now (slice_get_read lists (length lists) place c.index.result.now refl there c.index.ensures) in
    room_along (pass_ground c.args.pass) (pass_ground c.loop-place.pass) (λ f n. IsOwn f n × (n ≡ c.index.result.now.node)) lists inv.ground
    (room_fewer (pass_ground c.args.pass) (IsMineAmong place c.loop-place.away.items) (λ f n. IsOwn f n × (n ≡ c.index.result.now.node)) lists
    (λ f n own. (own.0, (λ lt. absurd (omega (arith, lt, own.1, same))))) inv.drafts)

pub returns-clause-room : goal.returns-clause-room
returns-clause-room g c =
    room_fewer (pass_ground c.args.pass) (IsMineAmong c.loop-place.place c.loop-place.away.items) (λ f. IsMine f c.loop-place.away.items) c.loop-place.lists.items
    (λ f n mine. (mine.0, (λ lt. mine.1))) c.loop-place.invariant.drafts

pub station_of-back-requires-clause-form : goal.station_of-back-requires-clause-form
station_of-back-requires-clause-form g c κs within = λ a is.
    let inv = c.loop-place.invariant in
    c.take_form-form.ensures.form a.program (inv.forms a (sym inv.ground ∙ is))

pub loop-place-preserved : goal.loop-place-preserved
loop-place-preserved g c =
    let inv = c.loop-place.invariant in
    let did = c.station_of-back.ensures in
    let one = c.push_reserved.ensures in
    let other = c.push_reserved-in-loop-place.ensures in
    let lists = c.loop-place.lists.items in
    let place = c.loop-place.place in
    let there : place < length lists = omega (arith, inv.lists.nodes.each, c.len-count.ensures, c.args.lists.now.ok.0, c.requires.lists.nodes.each) in
    let same : c.index.result.now.node ≡ place =
    inv.lists.nodes.nodes place c.index.result.now (slice_get_read lists (length lists) place c.index.result.now refl there c.index.ensures) in
    record {
      lock = did.lock ∙ inv.lock;
      ground = did.ground ∙ inv.ground;
      seen = did.seen;
      lists = did.lists;
      drafts =
          let ground = sym inv.ground in
          let at_place : HaveRoomIn (pass_ground c.args.pass) (IsMineAmong (place + 1) (c.loop-place.away.items ++ c.is_thread.result ∷ [])) c.station_of-back.new.lists.items =
          room_stationed (pass_ground c.args.pass) place c.loop-place.away.items c.is_thread.result lists c.station_of-back.new.lists.items
          (omega (arith, inv.same, c.loop-place.away.ok.0))
          (λ n list other at. did.others n list (λ is. other (is ∙ same)) at)
          (λ none. room_along (pass_ground c.loop-place.pass) (pass_ground c.args.pass) (λ f n. IsOwn f n × (n ≡ place)) c.station_of-back.new.lists.items ground
          (subst (λ k. HaveRoomIn (pass_ground c.loop-place.pass) (λ f n. IsOwn f n × (n ≡ k)) c.station_of-back.new.lists.items) same
          (did.room (sym c.is_thread.ensures ∙ none))))
          inv.drafts in
          subst (λ l. HaveRoomIn (pass_ground c.args.pass) (IsMineAmong (place + 1) l) c.station_of-back.new.lists.items) (sym one.items) at_place;
      count = search rules;
      same = search rules;
      room = search rules;
      away = search rules;
      forms = λ a is. c.take_form-form.ensures.stay a.program (inv.forms a is);
      stationed = λ a is.
          let R = IsStationed (lock_of c.args.turn.now) a c.args.flight.now in
          let number : c.loop-place.place ≡ 0 + length c.loop-place.away.items = omega (arith, inv.same, c.loop-place.away.ok.0) in
          let here : R c.loop-place.place c.is_thread.result c.station_of-back.result.1 = (
            c.is_thread.ensures,
            subst (λ n. IsAt (lock_of c.args.turn.now) a
                c.args.flight.now n c.station_of-back.result.1) same (did.station a (inv.ground ∙ is)),
          ) in
          subst (λ xs. EachFrom R 0 xs c.push_reserved-in-loop-place.new.self.items) (sym one.items)
          (subst (λ ys. EachFrom R 0 (c.loop-place.away.items ++ c.is_thread.result ∷ []) ys) (sym other.items)
          (each_more R 0 c.loop-place.away.items c.loop-place.stations.items c.is_thread.result c.station_of-back.result.1 (inv.stationed a is)
          (subst (λ n. R n c.is_thread.result c.station_of-back.result.1) number here)));
    }
