use Rattle.std.proofs.Common.{◌-◌, length}
use Rattle.sot_ordered_board.specs.Order.{HaveDecided}
use Rattle.sot_workers.specs.Instants.{GoesOn}
use Rattle.sot_workers.specs.Lists.{KeepsLists, KeepsRoom}
use Rattle.sot_workers.proofs.own.work_on.Given as goal

abbrev pub invariant-ticks : goal.invariant-ticks
invariant-ticks l = record {
  goes_on : GoesOn l.fn.board l.board;
  decided : HaveDecided l.board.position (length l.board.accepted.program.modules);
  lists : KeepsLists l.board l.away l.lists.items;
  room : KeepsRoom l.board l.away l.lists.items;
}

-- the ticks that are still to come
abbrev pub decreases-ticks : goal.decreases-ticks
decreases-ticks l = l.horizon - l.board.position.at.time
