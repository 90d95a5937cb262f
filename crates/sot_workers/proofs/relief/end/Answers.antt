use Rattle.std.proofs.Common.{◌∙◌}
use Rattle.sot_turn.specs.Passes.{lock_of, pass_seen}
use Rattle.sot_workers.proofs.Stations.{relieved_of}
use Rattle.sot_workers.proofs.relief.end.Goals as goal

pub finish-shift-requires-clause-on_shift : goal.finish-shift-requires-clause-on_shift
finish-shift-requires-clause-on_shift g c = (let b = c.requires.began in (b.3, b.5))

pub finish-shift-requires-clause-lock : goal.finish-shift-requires-clause-lock
finish-shift-requires-clause-lock g c = (let b = c.requires.began in b.5.lock ∙ b.4.ready.lock_is)

pub part-requires : goal.part-requires
part-requires g c =
    let b = c.requires.began in
    record { lock = (c.requires.lock, (c.finish-shift.ensures.on_shift b.3 b.5).lock ∙ b.4.ready.lock_is) }

pub returns-clause-list : goal.returns-clause-list
returns-clause-list g c = λ a f whole n began seen_whole of on.
    let part = c.part.ensures in
    relieved_of g.C.Controller.asked (lock_of c.args.turn.now) a f whole n began c.finish-shift.result (pass_seen c.args.pass) (pass_seen c.part.result.0)
    c.part.result.1 seen_whole part.seen.0 part.seen.1 of (c.finish-shift.ensures.on_shift began on) c.finish-shift.ensures.finished part.list.0 part.list.1
