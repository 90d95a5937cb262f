use Rattle.std.proofs.Common.{◌∙◌}
use Rattle.sot_turn.specs.Passes.{lock_of, pass_seen}
use Rattle.sot_workers.proofs.Placing.{has_guest, done_of}
use Rattle.sot_workers.proofs.join.end.Goals as goal

pub part-requires-clause-lock : goal.part-requires-clause-lock
part-requires-clause-lock g c =
    let placed = c.requires.placed in
    (c.requires.lock, (c.finish-shift.ensures.on_shift placed.4 placed.6).lock ∙ placed.5.ready.lock_is)

pub part-requires-clause-guest : goal.part-requires-clause-guest
part-requires-clause-guest g c =
    let placed = c.requires.placed in
    has_guest g.C.Controller.asked placed.4 c.finish-shift.result placed.3 placed.5.carries (c.finish-shift.ensures.on_shift placed.4 placed.6)

pub returns-clause-done : goal.returns-clause-done
returns-clause-done g c = λ a f whole number guest began seen_whole of on.
    let part = c.part.ensures in
    done_of g.C.Controller.asked (lock_of c.args.turn.now) a f whole number guest began c.finish-shift.result (pass_seen c.args.pass)
    (pass_seen c.part.result.0)
    c.part.result.1 part.list.0 seen_whole part.seen.0 part.seen.1 of
    (c.finish-shift.ensures.on_shift began on) c.finish-shift.ensures.finished part.guest part.list.1 part.list.2 part.list.3
