use Rattle.std.proofs.Common.{◌∙◌, ◌≢◌, ◌+◌, ◌<◌, length, refl, sym, ap, subst, vec_capacity, arith}
use Rattle.std.proofs.lemmas.Option.{slice_get_within}
use Rattle.sot_turn.specs.Passes.{pass_ground}
use Rattle.sot_flight.specs.Plans.{Guest}
use Rattle.sot_board.specs.Versions.{drafts_of}
use Rattle.sot_lists.proofs.Places.{at_below}
use Rattle.sot_fly_worker.specs.Rooms.{HasRoomFor}
use Rattle.sot_workers.specs.Flying.{IsFrom}
use Rattle.sot_workers.proofs.FormFacts.{no_form}
use Rattle.sot_workers.proofs.Placing.{ground_same}
use Rattle.sot_workers.proofs.Rooms.{room_fewer, room_kept, from_later, from_other, guest_from, ground_crew}
use Rattle.sot_workers.proofs.seat.job_of.Goals as goal

pub returns-in_default-clause-room : goal.returns-in_default-clause-room
returns-in_default-clause-room g c =
    room_fewer (pass_ground c.args.pass) (IsFrom c.args.number) (IsFrom (c.args.number + 1)) c.args.lists.now.items
    (λ f n. from_later c.args.number f n) c.requires.room

pub returns-clause-room : goal.returns-clause-room
returns-clause-room g c = λ a f is.
    let number = c.args.number in
    let crew = ground_crew (pass_ground c.args.pass) a f c.args.flight.now c.in-Some.node number c.requires.ground is c.in-Some.ensures in
    room_kept a.program.nodes f.horizon (IsFrom number f) (IsFrom (number + 1) f) (λ n. n ≢ c.in-Some.node) c.args.lists.now.items c.take_list.new.lists.items
    c.take_list.ensures.others (λ n. from_other number f c.in-Some.node n crew) (λ n. from_later number f n) (c.requires.room a f is)

pub returns-clause-job : goal.returns-clause-job
returns-clause-job g c = λ a is.
    let f = c.args.flight.now in
    let known = c.requires.ground in
    let crew = c.in-Some.ensures in
    let within : c.in-Some.node < length f.crews = slice_get_within f.crews c.in-Some.node (Guest c.args.number) crew in
    let same = (ground_same (pass_ground c.args.pass) known.0 a f f known.1 is).0 in
    let there : c.in-Some.node < length a.program.nodes = omega (arith, within, known.2, ap (λ x. length x.program.nodes) same) in
    let list = at_below c.args.lists.now.items c.in-Some.node (omega (arith, within, c.requires.lists.nodes.each)) in
    let seen = c.split-pass.ensures.seen.1 ∙ c.requires.seen in
    let ground = c.split-pass.ensures.ground.1 ∙ is in
    record {
      ready = record {
        at_work =
            record {
              accepted = a;
              plan = f;
              ground = ground;
              there = there;
              guest = (c.args.number, crew);
              drafts = c.take_list.ensures.none ∙ ap (drafts_of c.in-Some.node) (sym seen);
              room =
                  subst (λ (v : _). HasRoomFor a.program.nodes f.horizon c.in-Some.node (vec_capacity v)) (sym (c.take_list.ensures.was list.0 list.1))
                  (c.requires.room a f is c.in-Some.node list.0 list.1 (guest_from c.args.number f c.in-Some.node crew));
              form = no_form a.program c.in-Some.node;
            };
        lock_is = c.split-pass.ensures.lock.1 ∙ c.requires.lock;
        no_drafts = c.take_list.ensures.none;
        unfinished = refl;
      };
      ground = ground;
      crew = crew;
      carries = refl;
    }
