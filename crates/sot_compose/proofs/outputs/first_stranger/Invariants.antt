use Rattle.std.proofs.Common.{ℕ, ◌<◌}
use Rattle.sot_compose.specs.Outputs.{AreRelated}
use Rattle.sot_compose.proofs.outputs.first_stranger.Given as goal

abbrev pub invariant-loop-other : goal.invariant-loop-other
invariant-loop-other l = (k : ℕ) → l.node < k → k < l.other → AreRelated l.p l.topic l.node k
