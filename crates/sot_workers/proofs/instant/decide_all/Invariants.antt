use Rattle.std.proofs.Common.{◌≡◌, length}
use Rattle.sot_workers.specs.Instants.{IsSameInstant, AddsNoFiring, NoneLeft}
use Rattle.sot_workers.proofs.instant.decide_all.Given as goal

-- the modules so far are not left
abbrev pub invariant-loop-module : goal.invariant-loop-module
invariant-loop-module l = record {
  same : IsSameInstant l.fn.board l.board;
  entries : AddsNoFiring l.fn.board.entries l.board.entries;
  inputs : l.board.position.inputs ≡ l.fn.board.position.inputs;
  none : NoneLeft l.board.position.at.left_dm l.«module»;
  count : l.count ≡ length l.fn.board.accepted.program.modules;
}
