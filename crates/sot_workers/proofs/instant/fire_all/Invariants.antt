use Rattle.std.proofs.Common.{◌≡◌, length}
use Rattle.sot_workers.specs.Instants.{IsSameInstant, NoneLeft}
use Rattle.sot_turn.specs.Prefixes.{IsPrefix}
use Rattle.sot_workers.proofs.Turns.{Turn}
use Rattle.sot_workers.proofs.instant.fire_all.Given as goal

-- the nodes so far are not left
abbrev pub invariant-loop-node : goal.invariant-loop-node
invariant-loop-node l = record {
  same : IsSameInstant l.fn.board l.board;
  inputs : l.board.position.inputs ≡ l.fn.board.position.inputs;
  left_dm : l.board.position.at.left_dm ≡ l.fn.board.position.at.left_dm;
  goes_on : IsPrefix l.fn.board.entries l.board.entries;
  turn : Turn l.board l.node;
  none : NoneLeft l.board.position.at.left l.node;
  count : l.count ≡ length l.fn.board.accepted.program.nodes;
}
