use Rattle.std.proofs.Common.{subst}
use Rattle.sot_turn.specs.Passes.{lock_of}
use Rattle.sot_workers.specs.Sent.{IsJob}
use Rattle.sot_workers.proofs.Placing.{placed_started}
use Rattle.sot_workers.proofs.start.place.Goals as goal

pub returns-in-Leaves : goal.returns-in-Leaves
returns-in-Leaves g c = λ a f number guest job.
    let lock = lock_of c.args.turn.now in
    placed_started g.C.Controller.asked lock a f number guest c.in-Leaves.shift c.start.result (subst (IsJob lock a f number guest) c.in-Leaves.is job)
    c.start.ensures
