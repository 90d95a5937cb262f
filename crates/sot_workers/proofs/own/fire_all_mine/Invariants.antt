use Rattle.std.proofs.Common.{◌≡◌, true}
use Rattle.sot_turn.specs.Prefixes.{IsPrefix}
use Rattle.sot_workers.specs.Instants.{IsSameInstant}
use Rattle.sot_workers.specs.Lists.{KeepsLists, KeepsRoom}
use Rattle.sot_workers.proofs.Turns.{Turn}
use Rattle.sot_workers.proofs.own.fire_all_mine.Given as goal

abbrev pub invariant-loop-node : goal.invariant-loop-node
invariant-loop-node l = record {
  left_dm : l.board.position.at.left_dm ≡ l.fn.board.position.at.left_dm;
  turn : l.may ≡ true → Turn l.board l.node;
  same : IsSameInstant l.fn.board l.board;
  goes_on : IsPrefix l.fn.board.entries l.board.entries;
  lists : KeepsLists l.board l.away l.lists.items;
  room : KeepsRoom l.board l.away l.lists.items;
}
