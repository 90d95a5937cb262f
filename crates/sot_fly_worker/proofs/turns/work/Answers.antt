use Rattle.std.proofs.Common.{inl, refl}
use Rattle.sot_turn.specs.Passes.{lock_of}
use Rattle.sot_fly_worker.proofs.Turning.{ready_on_shift}
use Rattle.sot_fly_worker.proofs.turns.work.Goals as goal

pub loop-init : goal.loop-init
loop-init g c = ready_on_shift g.C.Controller.asked (lock_of c.args.turn.now) c.args.shift c.requires

pub loop-preserved : goal.loop-preserved
loop-preserved g c = c.take_turn-shift.ensures.on_shift c.args.shift c.loop.invariant

pub returns-then-is_refused : goal.returns-then-is_refused
returns-then-is_refused g c = record { on_shift = ready_on_shift g.C.Controller.asked (lock_of c.args.turn.now) c.args.shift c.requires; ended = inl refl }
