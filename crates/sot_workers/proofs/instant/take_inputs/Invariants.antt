use Rattle.std.proofs.Common.{length}
use Rattle.sot_workers.specs.Instants.{IsSameInstant, AddsNoFiring}
use Rattle.sot_workers.proofs.instant.take_inputs.Given as goal

abbrev pub invariant-inputs : goal.invariant-inputs
invariant-inputs l = record {
  same : IsSameInstant l.fn.board l.board;
  entries : AddsNoFiring l.fn.board.entries l.board.entries;
}

-- each input that comes is one fewer
abbrev pub decreases-inputs : goal.decreases-inputs
decreases-inputs l = length l.board.position.inputs
