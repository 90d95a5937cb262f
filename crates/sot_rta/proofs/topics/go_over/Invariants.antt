use Rattle.std.proofs.Common.{ℕ, ◌<◌}
use Rattle.sot_lang.specs.declared.tables.ScalarInfo.{ScalarInfo}
use Rattle.sot_lists.specs.Places.{At}
use Rattle.sot_rta.specs.Topics.{AreSomeOf}
use Rattle.sot_rta.proofs.topics.go_over.Given as goal

-- the topics of those before are topics of the others
abbrev pub invariant-loop-i : goal.invariant-loop-i
invariant-loop-i l = (j k : ℕ) (info : ScalarInfo) → j < l.i → At l.some j k → At l.infos k info → AreSomeOf l.infos l.others info.topic
