use Rattle.std.proofs.Common.{ℕ, ◌+◌, ◌<◌}
use Rattle.sot_lists.specs.Places.{At}
use Rattle.sot_lang.specs.declared.tables.ScalarInfo.{ScalarInfo}
use Rattle.sot_bridge.specs.Topics.{Suits}
use Rattle.sot_bridge.proofs.topics.topics_match.Given as goal

abbrev pub invariant-loop-i : goal.invariant-loop-i
invariant-loop-i l =
    (j : ℕ) (x y : ScalarInfo) → j < l.i → At l.p.scalars (l.a.first + j) x → At l.q.scalars (l.b.first + j) y → Suits x y
