use Rattle.std.proofs.Common.{◌∙◌, refl, sym, subst}
use Rattle.std.proofs.lemmas.Option.{same_Some}
use Rattle.sot_tube.specs.Admitted.{Admitted}
use Rattle.sot_flight.specs.Plans.{Plan}
use Rattle.sot_turn.specs.Passes.{pass_ground, pass_seen}
use Rattle.sot_workers.specs.Flying.{IsMine}
use Rattle.sot_workers.proofs.Rooms.{room_along}
use Rattle.sot_workers.specs.Sent.{IsCallers}
use Rattle.sot_workers.proofs.watch.watch.Goals as goal

pub loop-init : goal.loop-init
loop-init g c = record {
  lock = refl;
  ground = refl;
  callers = λ a f is.
      let p = c.requires.callers in
      subst (λ (x : Admitted × Plan). IsCallers x.0 x.1 c.args.away.now (pass_ground c.args.pass) (pass_seen c.args.pass) c.args.lists.now.items)
      (same_Some (p.0, p.1) (a, f) (sym p.2.ground_is ∙ is)) p.2;
  room = c.requires.room;
  places = λ a f guests each. each;
}

pub take_own_turn-back-requires-clause-callers : goal.take_own_turn-back-requires-clause-callers
take_own_turn-back-requires-clause-callers g c =
    let p = c.requires.callers in
    (p.0, p.1, c.loop.invariant.callers p.0 p.1 p.2.ground_is)

pub take_own_turn-back-requires-clause-room : goal.take_own_turn-back-requires-clause-room
take_own_turn-back-requires-clause-room g c =
    let inv = c.loop.invariant in
    room_along (pass_ground c.args.pass) (pass_ground c.loop.pass) (λ f. IsMine f c.args.away.now) c.loop.lists.items inv.ground inv.room

pub turn_each-requires : goal.turn_each-requires
turn_each-requires g c =
    let p = c.requires.places in
    (p.0, p.1, p.2, c.loop.invariant.places p.0 p.1 p.2 p.3)

pub loop-preserved : goal.loop-preserved
loop-preserved g c =
    let inv = c.loop.invariant in
    let took = c.take_own_turn-back.ensures in
    record {
      lock = took.lock ∙ inv.lock;
      ground = took.ground ∙ inv.ground;
      callers = λ a f is. took.callers a f (inv.ground ∙ is);
      room = room_along (pass_ground c.loop.pass) (pass_ground c.args.pass) (λ f. IsMine f c.args.away.now) c.take_own_turn-back.new.lists.items (sym inv.ground) took.room;
      places = λ a f guests each. c.turn_each.ensures a f guests (inv.places a f guests each);
    }
