use Rattle.std.proofs.Common.{◌-◌}
use Rattle.sot_workers.specs.Instants.{GoesOn}
use Rattle.sot_workers.proofs.whole.fly_alone.Given as goal

abbrev pub invariant-ticks : goal.invariant-ticks
invariant-ticks l = GoesOn l.fn.board l.board

-- the ticks that are still to come
abbrev pub decreases-ticks : goal.decreases-ticks
decreases-ticks l = l.horizon - l.board.position.at.time
