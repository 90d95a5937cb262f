use Rattle.std.proofs.Common.{ℕ, ◌<◌}
use Rattle.sot_bridge.specs.Topics.{IsNamed}
use Rattle.sot_bridge.proofs.topics.topic_named.Given as goal

abbrev pub invariant-loop-k : goal.invariant-loop-k
invariant-loop-k l = (j : ℕ) → j < l.k → IsNamed l.p l.name l.outside j → ⊥
