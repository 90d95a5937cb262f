use Rattle.std.proofs.Common.{◌∙◌, Some, sym, ap, subst}
use Rattle.sot_turn.specs.Prefixes.{IsPrefix}
use Rattle.sot_turn.specs.Passes.{pass_ground, pass_seen}
use Rattle.sot_workers.specs.Flying.{IsMine}
use Rattle.sot_workers.proofs.OwnTurns.{found}
use Rattle.sot_workers.proofs.Rooms.{room_beside}
use Rattle.sot_workers.proofs.watch.take_own_turn.Goals as goal

pub work_in_turn-finished-requires-clause-lists : goal.work_in_turn-finished-requires-clause-lists
work_in_turn-finished-requires-clause-lists g c =
    let own = c.requires.callers in
    let b = c.lend.result.now in
    let known = pass_seen c.args.pass in
    let is = c.take-held.ensures.ground ∙ ap (λ x. Some (x.accepted, x.plan)) (sym c.lend.ensures.value) in
    let on : IsPrefix known b.entries = subst (λ x. IsPrefix known x.entries) (sym c.lend.ensures.value) c.take-held.ensures.goes_on in
    found own.0 own.1 c.args.away.now (pass_ground c.args.pass) known c.args.lists.now.items b own.2 is on

pub work_in_turn-finished-requires-clause-room : goal.work_in_turn-finished-requires-clause-room
work_in_turn-finished-requires-clause-room g c =
    let b = c.lend.result.now in
    c.requires.room b.accepted b.plan (c.take-held.ensures.ground ∙ ap (λ x. Some (x.accepted, x.plan)) (sym c.lend.ensures.value))

pub returns-clause-room : goal.returns-clause-room
returns-clause-room g c =
    let b = c.lend.result.now in
    let new = c.work_in_turn-finished.new.board in
    let goes = c.work_in_turn-finished.ensures.goes_on in
    let is = c.take-held.ensures.ground ∙ ap (λ x. Some (x.accepted, x.plan)) (sym c.lend.ensures.value) in
    room_beside (pass_ground c.args.pass) new (λ f. IsMine f c.args.away.now) c.work_in_turn-finished.new.lists.items
    (is ∙ ap (λ a. Some (a, b.plan)) (sym goes.accepted) ∙ ap (λ f. Some (new.accepted, f)) (sym goes.plan)) c.work_in_turn-finished.ensures.room
