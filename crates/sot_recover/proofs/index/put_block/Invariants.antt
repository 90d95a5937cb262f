use Rattle.std.proofs.Common.{ℕ, ◌<◌, ◌≤◌, ◌⊎◌, ◌↔◌}
use Rattle.sot_lists.specs.Places.{Has}
use Rattle.sot_recover.specs.Meeting.{MeetsAt}
use Rattle.sot_recover.specs.Blocks.{RiseBelow}
use Rattle.sot_recover.proofs.index.put_block.Given as goal

abbrev pub invariant-loop-i : goal.invariant-loop-i
invariant-loop-i l = record {
  places : (k : ℕ) → Has l.found.items k ↔ (Has l.initial.found.items k ⊎ ((l.from ≤ k) × (k < l.i) × MeetsAt l.boxes l.b k));
  once : RiseBelow l.from l.initial.found.items → RiseBelow l.i l.found.items;
}
