use Rattle.std.proofs.Common.{ℕ, ◌<◌}
use Rattle.sot_compose.specs.Outputs.{AreAllRelated}
use Rattle.sot_compose.proofs.outputs.first_shared_output.Given as goal

abbrev pub invariant-loop-topic : goal.invariant-loop-topic
invariant-loop-topic l = (t : ℕ) → t < l.topic → AreAllRelated l.p t
