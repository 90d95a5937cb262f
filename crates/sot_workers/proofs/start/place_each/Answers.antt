use Rattle.std.proofs.Common.{◌≡◌, ◌∙◌, [], length, refl, sym, subst, rules}
use Rattle.std.specs.Vec.Iter.{into_iter_items}
use Rattle.sot_turn.specs.Passes.{lock_of}
use Rattle.std.specs.Prelude.{◌+◌, vec_len}
use Rattle.sot_turn.specs.Passes.{pass_ground}
use Rattle.sot_ordered_board.specs.Crews.{IsOwn}
use Rattle.sot_workers.specs.Flying.{IsFrom}
use Rattle.sot_workers.specs.Lists.{HaveRoomIn}
use Rattle.sot_workers.proofs.Rooms.{room_fewer, room_along, own_from, from_none}
use Rattle.sot_workers.specs.Sent.{IsPlaced}
use Rattle.sot_workers.specs.Pairs.{EachFrom}
use Rattle.sot_workers.proofs.Coming.{AreComing, Same, each_same, coming_begins, coming_more, coming_ends}
use Rattle.sot_fly_worker.proofs.Firing.{nil_of}
use Rattle.sot_workers.proofs.start.place_each.Goals as goal

pub loop-guest-init : goal.loop-guest-init
loop-guest-init g c = record {
  lock = refl;
  ground = refl;
  seen = c.requires.seen;
  lists = c.requires.lists;
  drafts = room_fewer (pass_ground c.args.pass) (IsFrom 0) (IsFrom (vec_len c.args.places)) c.args.lists.now.items (λ f n. from_none (vec_len c.args.places) f n)
      c.requires.drafts;
  room = search rules;
  count = search rules;
  placed = λ a is.
      let guests = into_iter_items c.into_iter-guest-iterator.result in
      let Q = IsPlaced g.C.Controller.asked (lock_of c.args.turn.now) a c.args.flight.now in
      subst (λ l. AreComing Same Q guests l guests) (sym c.requires.room.0) (coming_begins Same Q guests guests (each_same 0 guests));
}

pub job_of-back-requires-clause-ground : goal.job_of-back-requires-clause-ground
job_of-back-requires-clause-ground g c =
    let known = c.requires.ground in
    (known.0, c.loop-guest.invariant.ground ∙ known.1, known.2)

pub job_of-back-requires-clause-room : goal.job_of-back-requires-clause-room
job_of-back-requires-clause-room g c =
    let inv = c.loop-guest.invariant in
    subst (λ k. HaveRoomIn (pass_ground c.loop-guest.pass) (IsFrom k) c.loop-guest.lists.items) (search rules)
    (room_along (pass_ground c.args.pass) (pass_ground c.loop-guest.pass) (IsFrom (vec_len c.loop-guest.places)) c.loop-guest.lists.items inv.ground inv.drafts)

pub returns-clause-drafts : goal.returns-clause-drafts
returns-clause-drafts g c =
    let number = vec_len c.loop-guest.places in
    room_fewer (pass_ground c.args.pass) (IsFrom number) IsOwn c.loop-guest.lists.items (λ f n. own_from number f n) c.loop-guest.invariant.drafts

pub place-requires : goal.place-requires
place-requires g c =
    let known = c.requires.ground in (
      c.type_bounds.send-C,
      (
        c.type_bounds.sync-R,
        (
          known.0,
          c.args.flight.now,
          c.len-number.result,
          c.in-Some.guest,
          c.job_of-back.ensures.job known.0 (c.loop-guest.invariant.ground ∙ known.1),
        ),
      ),
    )

pub loop-guest-preserved : goal.loop-guest-preserved
loop-guest-preserved g c =
    let inv = c.loop-guest.invariant in
    let job = c.job_of-back.ensures in
    record {
      lock = job.lock ∙ inv.lock;
      ground = job.ground ∙ inv.ground;
      seen = job.seen;
      lists = job.lists;
      drafts =
          subst (λ k. HaveRoomIn (pass_ground c.args.pass) (IsFrom k) c.job_of-back.new.lists.items) (search rules)
          (room_along (pass_ground c.loop-guest.pass) (pass_ground c.args.pass) (IsFrom (c.len-number.result + 1)) c.job_of-back.new.lists.items (sym inv.ground)
          job.room);
      room = search rules;
      count = search rules;
      placed = λ a is.
          let Q = IsPlaced g.C.Controller.asked (lock_of c.args.turn.now) a c.args.flight.now in
          let guests = into_iter_items c.into_iter-guest-iterator.result in
          let places = c.loop-guest.places.items in
          let rest = into_iter_items c.next.new.self in
          let coming = subst (λ l. AreComing Same Q guests places l) c.in-Some.ensures.steps.0 (inv.placed a is) in
          let here = c.place.ensures a c.args.flight.now c.len-number.result c.in-Some.guest (job.job a (inv.ground ∙ is)) in
          let number : c.len-number.result ≡ length places = search rules in
          let placed : (guest : g.row.C.Denot) → guest ≡ c.in-Some.guest → Q (length places) guest c.place.result =
          λ guest same. subst (λ x. Q (length places) x c.place.result) (sym same) (subst (λ n. Q n c.in-Some.guest c.place.result) number here) in
          subst (λ l. AreComing Same Q guests l rest) (sym c.push_reserved.ensures.items)
          (coming_more Same Q guests places c.in-Some.guest rest c.place.result placed coming);
    }

pub returns-clause-placed : goal.returns-clause-placed
returns-clause-placed g c = λ a is.
    let Q = IsPlaced g.C.Controller.asked (lock_of c.args.turn.now) a c.args.flight.now in
    let guests = into_iter_items c.into_iter-guest-iterator.result in
    let places = c.loop-guest.places.items in
    let none : into_iter_items c.loop-guest.guest-iterator ≡ [] = nil_of _ (search rules) in
    let coming = subst (λ l. AreComing Same Q guests places l) none (c.loop-guest.invariant.placed a is) in
    subst (λ l. EachFrom Q 0 l places) c.into_iter-guest-iterator.ensures.into_iter_gives.0 (coming_ends Same Q guests places coming)
