use Rattle.std.proofs.Common.{◌≡◌, ◌∙◌, ◌<◌, ℕ, length, Some, sym, ap, subst, arith}
use Rattle.sot_lists.specs.Places.{At}
use Rattle.sot_flight.specs.Plans.{Guest}
use Rattle.sot_board.specs.Standing.{Standing}
use Rattle.sot_turn.specs.Passes.{pass_ground}
use Rattle.std.specs.Prelude.{vec_capacity}
use Rattle.sot_fly_worker.specs.Rooms.{HasRoomFor}
use Rattle.sot_workers.specs.Forms.{AreFormsOf}
use Rattle.sot_workers.specs.Pairs.{EachFrom}
use Rattle.sot_workers.specs.Back.{IsGuestBack, FliesOnce}
use Rattle.sot_workers.proofs.PairFacts.{each_length}
use Rattle.sot_workers.proofs.Placing.{ground_same}
use Rattle.sot_workers.proofs.Landing.{each_answered, each_stays, lists_are}
use Rattle.sot_workers.proofs.crewed.fly.Goals as goal

pub fly_behind-requires-clause-ground : goal.fly_behind-requires-clause-ground
fly_behind-requires-clause-ground g c κs within =
    let b = c.args.board in (
      b.accepted,
      (c.in_ok-turn.ensures.ground ∙ ap (λ (s : Standing). Some (s.accepted, s.plan)) c.new-ordered.ensures) ∙ ap (λ f. Some (b.accepted, f)) (sym c.flight-flight.ensures),
      ap (λ f. length f.crews) c.flight-flight.ensures
          ∙ c.reveal_invariant.ensures.fits.crews,
    )

pub fly_behind-requires-clause-forms : goal.fly_behind-requires-clause-forms
fly_behind-requires-clause-forms g c κs within = λ a is.
    let b = c.args.board in
    let same = ground_same (pass_ground c.in_ok-turn.pass) b.accepted a b.plan _ (c.in_ok-turn.ensures.ground ∙ ap (λ (s : Standing). Some (s.accepted, s.plan)) c.new-ordered.ensures) is in
    subst (λ t. AreFormsOf t c.in_ok-room.room.forms.items) (c.typed-p.ensures ∙ ap (λ x. x.program) same.0) c.in_ok-room.ensures.forms

pub fly_behind-requires-clause-lists : goal.fly_behind-requires-clause-lists
fly_behind-requires-clause-lists g c κs within = λ a f is n list at from.
    let b = c.args.board in
    let same = ground_same (pass_ground c.in_ok-turn.pass) b.accepted a b.plan f
    (c.in_ok-turn.ensures.ground ∙ ap (λ (s : Standing). Some (s.accepted, s.plan)) c.new-ordered.ensures) is in
    subst (λ t. HasRoomFor t.nodes f.horizon n (vec_capacity list.drafts)) (c.typed-p.ensures ∙ ap (λ x. x.program) same.0)
    (subst (λ x. HasRoomFor c.typed-p.result.now.nodes x.horizon n (vec_capacity list.drafts)) (c.flight-flight.ensures ∙ same.1)
    (c.in_ok-room.ensures.drafts n list at tt))

pub returns-clause-lists : goal.returns-clause-lists
returns-clause-lists g c =
    let b = c.fly_behind.result.board in
    let guests = c.swap.new.y in
    let same = ground_same (pass_ground c.in_ok-turn.pass) c.args.board.accepted b.accepted c.args.board.plan b.plan
    (c.in_ok-turn.ensures.ground ∙ ap (λ (s : Standing). Some (s.accepted, s.plan)) c.new-ordered.ensures)
    c.fly_behind.ensures.ground in
    let there : (n i : ℕ) → At b.plan.crews n (Guest i) → i < length guests.items =
    λ n i at.
    let old : i < length c.args.guests.now.items = omega (
      arith,
      c.requires.there n i (subst (λ f. At f.crews n (Guest i)) (sym same.1) at),
      c.args.guests.now.ok.0,
    ) in
    subst (λ v. i < length v.items) (sym c.swap.ensures.y_after) old in
    lists_are (length b.accepted.program.nodes) b.plan (length guests.items) c.fly_behind.result.lists.items b.entries c.fly_behind.ensures.lists there

pub returns-clause-length : goal.returns-clause-length
returns-clause-length g c =
    let b = c.fly_behind.result.board in
    let now = c.fly_behind.new.guests in
    let was = c.args.guests.now in
    let R = IsGuestBack g.C.Controller.asked b.accepted b.plan b.entries in
    let each = subst (λ v. EachFrom R 0 v.items now.items) c.swap.ensures.y_after c.fly_behind.ensures.guests in
    let same : length now.items ≡ length was.items = each_length R 0 was.items now.items each in
    omega (arith, same, now.ok.0, was.ok.0)

pub returns-clause-asked : goal.returns-clause-asked
returns-clause-asked g c =
    let b = c.fly_behind.result.board in
    let now = c.fly_behind.new.guests.items in
    let R = IsGuestBack g.C.Controller.asked b.accepted b.plan b.entries in
    let each = subst (λ v. EachFrom R 0 v.items now) c.swap.ensures.y_after c.fly_behind.ensures.guests in
    let same = ground_same (pass_ground c.in_ok-turn.pass) c.args.board.accepted b.accepted c.args.board.plan b.plan
    (c.in_ok-turn.ensures.ground ∙ ap (λ (s : Standing). Some (s.accepted, s.plan)) c.new-ordered.ensures)
    c.fly_behind.ensures.ground in
    let once : FliesOnce b.plan = subst FliesOnce same.1 c.reveal_invariant.ensures.fits.guests_once in
    each_answered g.C.Controller.asked b.accepted b.plan b.entries c.args.guests.now.items now once each

pub returns-clause-unnamed : goal.returns-clause-unnamed
returns-clause-unnamed g c =
    let b = c.fly_behind.result.board in
    let now = c.fly_behind.new.guests.items in
    let R = IsGuestBack g.C.Controller.asked b.accepted b.plan b.entries in
    let each = subst (λ v. EachFrom R 0 v.items now) c.swap.ensures.y_after c.fly_behind.ensures.guests in
    each_stays g.C.Controller.asked b.accepted b.plan b.entries c.args.guests.now.items now each
