use Rattle.std.proofs.Common.{ℕ, ◌<◌, ◌*◌, ◌↔◌}
use Rattle.sot_lists.specs.Places.{Has}
use Rattle.sot_recover.specs.Meeting.{MeetsAt}
use Rattle.sot_recover.specs.Blocks.{RiseBelow}
use Rattle.sot_recover.proofs.index.put_all.Given as goal

abbrev pub invariant-loop-k : goal.invariant-loop-k
invariant-loop-k l =
    record { places : (i : ℕ) → Has l.found.items i ↔ ((i < l.k * 64) × MeetsAt l.boxes l.b i); once : RiseBelow (l.k * 64) l.found.items }
