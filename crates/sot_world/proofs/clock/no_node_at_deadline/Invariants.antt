use Rattle.std.proofs.Common.{◌≡◌, ◌≢◌, ℕ, ◌+◌, ◌<◌, true, false, slice_index_or}
use Rattle.sot_lists.specs.Places.{At}
use Rattle.sot_calendar.specs.Due.{IsLastDue}
use Rattle.sot_lang.specs.declared.tables.NodeInfo.{NodeInfo}
use Rattle.sot_world.proofs.clock.no_node_at_deadline.Given as goal

abbrev pub invariant-loop-n : goal.invariant-loop-n
invariant-loop-n l =
    (k : ℕ) (x : NodeInfo) (d : ℕ) → k < l.n → At l.nodes k x → slice_index_or l.left k false ≡ true → IsLastDue x.period x.offset l.time d
    → d + l.jitter ≢ l.time
