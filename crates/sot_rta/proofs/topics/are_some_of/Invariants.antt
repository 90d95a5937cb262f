use Rattle.std.proofs.Common.{◌≡◌, ℕ, ◌<◌}
use Rattle.sot_lang.specs.declared.tables.ScalarInfo.{ScalarInfo}
use Rattle.sot_lists.specs.Places.{At}
use Rattle.sot_rta.proofs.topics.are_some_of.Given as goal

-- none of those before is of the topic
abbrev pub invariant-loop-i : goal.invariant-loop-i
invariant-loop-i l = (j k : ℕ) (info : ScalarInfo) → j < l.i → At l.scalars j k → At l.infos k info → info.topic ≡ l.topic → ⊥
