use Rattle.std.proofs.Common.{◌≡◌, drop}
use Rattle.sot_bridge.specs.Sends.{has_topic}
use Rattle.sot_bridge.proofs.counting.has_topic.Given as goal

abbrev pub invariant-loop-k : goal.invariant-loop-k
invariant-loop-k l = has_topic l.p l.topic (drop l.k-index l.scalars) ≡ has_topic l.p l.topic l.scalars
