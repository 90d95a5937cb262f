use Rattle.std.proofs.Common.{ℕ, ◌<◌, ◌≤◌}
use Rattle.sot_compose.specs.Outputs.{Writes}
use Rattle.sot_compose.proofs.outputs.first_writer.Given as goal

-- none of those before writes the topic
abbrev pub invariant-loop-node : goal.invariant-loop-node
invariant-loop-node l = (k : ℕ) → l.from ≤ k → k < l.node → Writes l.p k l.topic → ⊥
