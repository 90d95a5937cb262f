use Rattle.std.proofs.Common.{ℕ, ◌<◌}
use Rattle.sot_rta.specs.Topics.{GoesOver}
use Rattle.sot_rta.proofs.topics.first_missing.Given as goal

abbrev pub invariant-loop-topic : goal.invariant-loop-topic
invariant-loop-topic l = (t : ℕ) → t < l.topic → GoesOver l.infos l.some l.others t
