use Rattle.std.proofs.Common.{ℕ, ◌<◌}
use Rattle.sot_rta.specs.Topics.{AreAlike}
use Rattle.sot_rta.proofs.topics.first_of_one_alone.Given as goal

abbrev pub invariant-loop-topic : goal.invariant-loop-topic
invariant-loop-topic l = (t : ℕ) → t < l.topic → AreAlike l.infos l.some l.others t
