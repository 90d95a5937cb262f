use Rattle.std.proofs.Common.{ℕ, ◌<◌}
use Rattle.sot_compose.specs.Outputs.{AreRelated}
use Rattle.sot_compose.proofs.outputs.first_writers.Given as goal

abbrev pub invariant-loop-node : goal.invariant-loop-node
invariant-loop-node l = (i j : ℕ) → i < l.node → i < j → AreRelated l.p l.topic i j
