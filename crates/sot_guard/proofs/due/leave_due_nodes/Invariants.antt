use Rattle.std.proofs.Common.{◌≡◌, ◌<◌, ◌↔◌, ℕ, true, false, length, slice_index_or}
use Rattle.sot_lists.specs.Places.{At}
use Rattle.sot_calendar.specs.Due.{IsDue}
use Rattle.sot_lang.specs.declared.tables.NodeInfo.{NodeInfo}
use Rattle.sot_guard.proofs.due.leave_due_nodes.Given as goal

-- exactly what is due before this one is left
abbrev pub invariant-loop-n : goal.invariant-loop-n
invariant-loop-n l = record {
  size : length l.left ≡ length l.nodes;
  done : (k : ℕ) (x : NodeInfo) → k < l.n → At l.nodes k x → (slice_index_or l.left k false ≡ true) ↔ IsDue x.period x.offset l.time;
}
